-- What the check tells where a name was looked up.
use Rattle.std.specs.Prelude.{◌≡◌, List, ℕ, Option, is_some, IfSome}
use Rattle.tables.specs.Numbered.{numbered}
use Rattle.tables.specs.Sound.{sound}
use Rattle.table_names.specs.Names.{find_in}
pub use Rattle.check_tables.specs.declared.NameSighting.{NameSighting}

-- something exactly if the tables are sound: the first resource of that name, or none
pub record Surveyed (ws ss name : List ℕ) (x : Option NameSighting) : Type 0 where
  pub sound : is_some x ≡ sound ws ss
  pub found : IfSome x (λ s. s.found ≡ numbered (find_in ws ss name))
