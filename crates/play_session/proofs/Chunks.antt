-- However an input is cut into chunks, what is printed for them, with the last line if one has begun, is what its lines print.
use mathlib.Core.Path.{◌≡◌, refl, sym, ap, ◌∙◌}
use mathlib.Core.Bool.{Bool, true, false, cond}
use mathlib.Core.List.{List, [], ◌∷◌, ◌++◌, map, flatten, append_assoc, append-nil}
use Prim.Native.Nat.{ℕ}
use Rattle.rules.specs.Entries.{Lent}
use Rattle.play_commands.specs.Forms.{meant}
use Rattle.play_lines.specs.InputLines.{KeptLine, kept_line, meant_kept, lines, Came, whole, more, comes, begun, given, gives}
use Rattle.play_print.specs.PrintedLines.{printed}
use Rattle.play_lines.proofs.FedBytes.{kept_means, gives_lines}
use Rattle.play_calls.specs.Plays.{played}
use Rattle.play_session.specs.Sessions.{printed_for, Session, taken, fed, fed_all, ended, from_line, printed_in_chunks}

-- what lines print, by what is kept of them
printed_kept : List KeptLine → Lent → List ℕ
printed_kept [] t = []
printed_kept (k ∷ ks) t = printed (played (meant_kept k) t).answer ++ printed_kept ks (played (meant_kept k) t).tables

kept_prints : (ls : List (List ℕ)) (t : Lent) → printed_kept (map kept_line ls) t ≡ printed_for ls t
unfolding printed_kept printed_for
kept_prints [] t = refl
kept_prints (l ∷ ls) t =
    ap (λ m. printed (played m t).answer ++ printed_kept (map kept_line ls) (played m t).tables) (kept_means l)
    ∙ ap (λ o. printed (played (meant l) t).answer ++ o) (kept_prints ls (played (meant l) t).tables)

-- after some bytes: what is printed so far, and what the rest will print
prints_all : Session → List ℕ → List ℕ
prints_all s rest = s.output ++ printed_kept (gives rest s.line) s.tables

one_more : (s : Session) (e : Came) (rest : List ℕ) → prints_all (taken s e) rest ≡ s.output ++ printed_kept (given e (gives rest)) s.tables
unfolding prints_all taken printed_kept
one_more s (more k) rest = refl
one_more s (whole k) rest =
    append_assoc s.output (printed (played (meant_kept k) s.tables).answer) (printed_kept (gives rest (kept_line [])) (played (meant_kept k) s.tables).tables)

fed_prints : (bs rest : List ℕ) (s : Session) → prints_all (fed_all s bs) rest ≡ prints_all s (bs ++ rest)
unfolding prints_all fed_all fed gives
fed_prints [] rest s = refl
fed_prints (b ∷ bs) rest s = fed_prints bs rest (fed s b) ∙ one_more s (comes s.line b) (bs ++ rest)

end_prints : (k : KeptLine) (t : Lent) → (ended (from_line k t)).output ≡ printed_kept (gives [] k) t
unfolding ended gives taken printed_kept
end_prints k t = go (begun k)
  where
    go : (b : Bool) → (cond b (taken (from_line k t) (whole k)) (from_line k t)).output ≡ printed_kept (cond b (k ∷ []) []) t
    go true = sym (append-nil (printed (played (meant_kept k) t).answer))
    go false = refl

chunks_print : (cs : List (List ℕ)) (k : KeptLine) (t : Lent) → printed_in_chunks cs k t ≡ printed_kept (gives (flatten cs) k) t
unfolding printed_in_chunks flatten prints_all
chunks_print [] k t = end_prints k t
chunks_print (c ∷ cs) k t =
    let s = fed_all (from_line k t) c in
    ap (λ o. s.output ++ o) (chunks_print cs s.line s.tables) ∙ fed_prints c (flatten cs) (from_line k t)

pub prints_lines : (cs : List (List ℕ)) (t : Lent) → printed_in_chunks cs (kept_line []) t ≡ printed_for (lines (flatten cs)) t
prints_lines cs t =
    chunks_print cs (kept_line []) t
    ∙ ap (λ ks. printed_kept ks t) (gives_lines (flatten cs))
    ∙ kept_prints (lines (flatten cs)) t
