-- The tests of the records: a lock's fields, a resource's words and slot, and the names.
use mathlib.Core.Path.{◌≡◌, refl, sym, ap, ◌∙◌}
use mathlib.Core.Bool.{true, false, ◌&&◌, ◌||◌, not, or-false}
use mathlib.Core.List.{List, [], ◌∷◌}
use Prim.Native.Nat.{ℕ, zero, suc, ◌-◌, ◌*◌, ◌≤◌, ◌<◌}
use native.Mathlib.Omega.{arith}
use lib.ListN.{length, take}
use lib.Dec.{eqb, leb}
use borrow.Author.Tests.{eqb-true, eq-eqb, ne_eqb, leb-true, leb-false, le-leb, not-true}
use Rattle.modes.specs.Modes.{NL, CR, CW, PR, PW, EX}
use Rattle.tables.specs.declared.Lock.{Lock}
use Rattle.tables.specs.Lists.{within, count, bit, from, null, same}
use Rattle.tables.specs.State.{Resource, resource}
use Rattle.tables.specs.Layout.{of_resource, slot_width, resources_in, locks_in, word_in, slot_in, read_resource, read, count_in}
use Rattle.tables.specs.Grants.{tally}
use Rattle.tables.specs.Sound.{free_resource_right, name_unique, used_resource_right, resource_right, on_resource, fields_right}
use Rattle.tables.proofs.Cases.{by_cases, by_equal, clash, and_left, and_right, and_intro, or_left, or_right, parts}
use Rattle.tables.proofs.Counts.{within_le, le_within, all_at, all_intro, from_has, from_below, from_above, same_refl, same_eq}
use Rattle.tables.proofs.Valid.{absent}
use Rattle.tables.proofs.ReadState.{resources_read, resource_of, slot_in_length}
use Rattle.tables.proofs.Conditions.{each_at, each_intro}
use Rattle.tables.proofs.Tallies.{tally_empty}
use Rattle.tables.proofs.PaperWords.{heads_zero}
use Rattle.table_names.specs.Names.{named, slot_fine, name_in, apart, apart_after, names_differ}
use Rattle.check_laws.specs.Check.{row_in, unheld, free_row, used_row, row_fine, resource_fine, on_named, fields_fine, digit, total, digits_in, counts_fine}

null_take : (n : ℕ) (xs : List ℕ) → 1 ≤ length xs → null (take n xs) ≡ eqb n 0
null_take zero xs h = refl
null_take (suc n) [] h = absurd (omega arith)
null_take (suc n) (x ∷ xs) h = rw (ne_eqb (suc n) 0 (omega arith))

-- six zeros are true where nobody holds a mode
pub unheld_fine : (ws : List ℕ) (r : ℕ) → unheld ws r ≡ true → counts_fine ws r 0 0 ≡ true
unfolding counts_fine total digits_in digit unheld
unheld_fine ws r h =
    let none : (m : ℕ) → eqb (count_in ws r m) 0 ≡ true → count_in ws r m ≡ 0 = λ m. eqb-true (count_in ws r m) 0 in
    rw (
      none NL (search parts depth 20),
      none CR (search parts depth 20),
      none CW (search parts depth 20),
      none PR (search parts depth 20),
      none PW (search parts depth 20),
      none EX (search parts depth 20),
    )

module _ (ws ss : List ℕ) (sized : length ss ≡ slot_width * resources_in ws) where
  -- LOCKS
  name_in_null : (r : ℕ) → 1 ≤ r → r ≤ resources_in ws → null (name_in ws ss r) ≡ eqb (word_in ws (of_resource r 4)) 0
  unfolding name_in
  name_in_null r p q = null_take (word_in ws (of_resource r 4)) (slot_in ss r) (omega (arith, slot_in_length ws ss sized r p q))

  pub name_read : (r : ℕ) → 1 ≤ r → r ≤ resources_in ws → (resource (read ws ss) r).name ≡ name_in ws ss r
  unfolding name_in read_resource
  name_read r p q = ap (λ (x : Resource). x.name) (resource_of ws ss r p q)

  on_is : (r : ℕ) → on_named ws r ≡ not (null (resource (read ws ss) r).name)
  unfolding on_named named
  on_is r =
      by_cases (within (resources_in ws) r)
      (λ w. let i = within_le (resources_in ws) r w in rw (le-leb 1 r i.0, le-leb r (resources_in ws) i.1, name_read r i.0 i.1, name_in_null r i.0 i.1))
      (λ w. rw (absent (read ws ss) r (rw (resources_read ws ss) w)) (out w))
    where
      out : within (resources_in ws) r ≡ false → (leb 1 r && leb r (resources_in ws) && not (eqb (word_in ws (of_resource r 4)) 0)) ≡ false
      out w =
          by_cases (leb 1 r)
          (λ a. by_cases (leb r (resources_in ws))
          (λ b. clash (within (resources_in ws) r) (le_within (resources_in ws) r (leb-true _ _ a) (leb-true _ _ b)) w)
          (λ b. rw (a, b)))
          (λ a. rw a)

  pub fields_same : (l : Lock) → fields_fine (on_named ws l.resource) l ≡ fields_right (read ws ss) l l.state
  unfolding fields_fine fields_right on_resource
  fields_same l = go l.state refl
    where
      go : (s : ℕ) → l.state ≡ s → fields_fine (on_named ws l.resource) l ≡ fields_right (read ws ss) l s
      go zero e = rw e (simp or-false)
      go (suc zero) e = rw (e, on_is l.resource) (simp or-false)
      go (suc (suc zero)) e = rw (e, on_is l.resource) (simp or-false)
      go (suc (suc (suc zero))) e = rw (e, on_is l.resource) (simp or-false)
      go (suc (suc (suc (suc zero)))) e = rw e
      go (suc (suc (suc (suc (suc n))))) e =
          rw (
            e,
            ne_eqb (suc (suc (suc (suc (suc n))))) 0 (omega arith),
            ne_eqb (suc (suc (suc (suc (suc n))))) 1 (omega arith),
            ne_eqb (suc (suc (suc (suc (suc n))))) 2 (omega arith),
            ne_eqb (suc (suc (suc (suc (suc n))))) 3 (omega arith),
            ne_eqb (suc (suc (suc (suc (suc n))))) 4 (omega arith),
          )

  -- RESOURCES
  module _ (some : 1 ≤ locks_in ws) (r : ℕ) (low : 1 ≤ r) (high : r ≤ resources_in ws) where
    pub fine_right : count r (read ws ss).free_resources ≡ bit (not (named ws r)) → (named ws r ≡ true → name_unique (read ws ss) r ≡ true) →
        resource_fine ws ss r ≡ true → resource_right ws ss (read ws ss) r ≡ true
    unfolding resource_right free_resource_right used_resource_right resource_fine row_fine slot_fine named free_row used_row row_in
    fine_right a b h =
        by_cases (eqb (word_in ws (of_resource r 4)) 0)
        (λ z. let h2 = rw z at h in
        let a2 : count r (read ws ss).free_resources ≡ 1 = a ∙ (rw z) in
        rw (z, heads_zero ws ss some r low high, a2) (search (and_intro, and_left, and_right) depth 20))
        (λ z. let h2 = rw z at h in
        let a2 : count r (read ws ss).free_resources ≡ 0 = a ∙ (rw z) in
        rw (z, heads_zero ws ss some r low high, a2, b (rw z)) (search (and_intro, and_left, and_right) depth 20))

    -- no lock holds a mode on a free resource, so its counts are zero if they are true
    free_unheld : ((m : ℕ) → m ≤ 5 → count_in ws r m ≡ tally (read ws ss) r m) → free_resource_right ws ss (read ws ss) r ≡ true → unheld ws r ≡ true
    unfolding free_resource_right unheld
    free_unheld c h =
        let none : (m : ℕ) → m ≤ 5 → eqb (count_in ws r m) 0 ≡ true = λ m l. eq-eqb (count_in ws r m) 0 (c m l ∙ tally_empty (read ws ss) r m (search parts depth 20)) in
        rw (none NL (omega arith), none CR (omega arith), none CW (omega arith), none PR (omega arith), none PW (omega arith), none EX (omega arith))

    pub right_fine : ((m : ℕ) → m ≤ 5 → count_in ws r m ≡ tally (read ws ss) r m) → resource_right ws ss (read ws ss) r ≡ true → resource_fine ws ss r ≡ true
    unfolding resource_right free_resource_right used_resource_right resource_fine row_fine slot_fine named free_row used_row row_in
    right_fine c h =
        by_cases (eqb (word_in ws (of_resource r 4)) 0)
        (λ z. let none = free_unheld c (rw z at h) in
        let h2 = rw (z, heads_zero ws ss some r low high) at h in
        rw z (search (and_intro, and_left, and_right) depth 20))
        (λ z. let h2 = rw (z, heads_zero ws ss some r low high) at h in
        rw z (search (and_intro, and_left, and_right) depth 20))

    pub right_spare : resource_right ws ss (read ws ss) r ≡ true → count r (read ws ss).free_resources ≡ bit (not (named ws r))
    unfolding resource_right free_resource_right used_resource_right named
    right_spare h =
        by_cases (eqb (word_in ws (of_resource r 4)) 0)
        (λ z. let h2 = rw z at h in rw z (eqb-true _ 1 (search parts depth 20)))
        (λ z. let h2 = rw z at h in rw z (eqb-true _ 0 (search parts depth 20)))

    pub right_unique : resource_right ws ss (read ws ss) r ≡ true → named ws r ≡ true → name_unique (read ws ss) r ≡ true
    unfolding resource_right used_resource_right named
    right_unique h u =
        let z = not-true (eqb (word_in ws (of_resource r 4)) 0) u in
        let h2 = rw z at h in search parts depth 20

  -- NAMES. Each is compared with those after it: two that are equal are met at the first of them
  pub names_unique : names_differ ws ss ≡ true → (r : ℕ) → 1 ≤ r → r ≤ resources_in ws → named ws r ≡ true → name_unique (read ws ss) r ≡ true
  unfolding names_differ name_unique apart_after apart
  names_unique h r p q u =
      rw (resources_read ws ss)
      (each_intro (λ s. eqb r s || not (same (resource (read ws ss) r).name (resource (read ws ss) s).name)) (resources_in ws)
      (λ s a b. rw (name_read r p q, name_read s a b)
      (by_equal r s
      (λ e. or_left _ _ (eq-eqb r s e))
      (λ n. or_right (eqb r s) _ (by_cases (same (name_in ws ss r) (name_in ws ss s))
      (λ y. by_cases (leb r s)
      (λ l. let z = after r s p q (omega (arith, leb-true r s l)) b in clash false (rw (u, y) at z) refl)
      (λ l. let e = same_eq (name_in ws ss r) (name_in ws ss s) y in
      let z = after s r a b (leb-false r s l) q in
      clash false (rw (named_same s a b e, e, same_refl (name_in ws ss s)) at z) refl))
      (λ y. rw y))))))
    where
      after : (r s : ℕ) → 1 ≤ r → r ≤ resources_in ws → r < s → s ≤ resources_in ws → not (named ws r && same (name_in ws ss r) (name_in ws ss s)) ≡ true
      after r s p q l b =
          all_at (λ s. not (named ws r && same (name_in ws ss r) (name_in ws ss s))) (from (suc r) (resources_in ws - r)) (each_at (apart_after ws ss) (resources_in ws) h r p q) s
          (rw (from_has (suc r) (resources_in ws - r) s (omega arith) (omega arith)) (omega arith))

      named_is : (s : ℕ) → 1 ≤ s → s ≤ resources_in ws → named ws s ≡ not (null (name_in ws ss s))
      named_is s a b = unfold named in rw (name_in_null s a b)

      named_same : (s : ℕ) → 1 ≤ s → s ≤ resources_in ws → name_in ws ss r ≡ name_in ws ss s → named ws s ≡ true
      named_same s a b e = named_is s a b ∙ (rw (sym e) (sym (named_is r p q) ∙ u))

  pub unique_names : ((r : ℕ) → 1 ≤ r → r ≤ resources_in ws → named ws r ≡ true → name_unique (read ws ss) r ≡ true) → names_differ ws ss ≡ true
  unfolding names_differ name_unique apart_after apart
  unique_names h =
      each_intro (apart_after ws ss) (resources_in ws)
      (λ r p q. all_intro (apart ws ss r) (from (suc r) (resources_in ws - r))
      (λ s m. by_cases (named ws r)
      (λ u. let i = inside r s q m in
      let z = each_at (λ s. eqb r s || not (same (resource (read ws ss) r).name (resource (read ws ss) s).name)) (resources_in ws) (rw (resources_read ws ss) at (h r p q u)) s (omega arith) i.1 in
      rw u (rw (ne_eqb r s (omega arith), name_read r p q, name_read s (omega arith) i.1) at z))
      (λ u. rw u)))
    where
      inside : (r s : ℕ) → r ≤ resources_in ws → 1 ≤ count s (from (suc r) (resources_in ws - r)) → (r < s) × (s ≤ resources_in ws)
      inside r s q m =
          by_cases (leb s r)
          (λ l. absurd (omega (arith, from_below (suc r) (resources_in ws - r) s (omega (arith, leb-true s r l)))))
          (λ l. (
            leb-false s r l,
            by_cases (leb s (resources_in ws))
                (λ k. leb-true s (resources_in ws) k)
                (λ k. absurd (omega (arith, from_above (suc r) (resources_in ws - r) s (omega (arith, leb-false s (resources_in ws) k))))),
          ))
