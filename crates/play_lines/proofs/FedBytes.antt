-- Laws of gathering lines: what one byte does in the code, and that bytes fed one by one give the input's lines.
use Prim.Native.Nat.{ℕ, suc, ◌+◌, ◌≤◌, ◌<◌, ◌-◌}
use mathlib.Core.Bool.{Bool, true, false, cond}
use mathlib.Core.Path.{◌≡◌, refl, sym, ap, ◌∙◌}
use mathlib.Core.List.{List, [], ◌∷◌, ◌++◌, map, append_assoc, append-nil}
use native.Mathlib.Numerals.{add-one}
use native.Mathlib.Omega.{arith}
use borrow.Author.Tests.{eq-eqb, ne_eqb, lt-ltb, le-ltb, le-leb, ltb-true, ltb-false}
use borrow.Author.Rules.{rules}
use lib.Dec.{eqb, ltb, leb}
use lib.ListN.{length, take, set, length-append, length-set}
use lib.Seq.{take-suc-set, length-take-le, take_all, take-append-le}
use Rattle.play_commands.specs.Forms.{Meaning, malformed, meant, line_width}
use Rattle.play_lines.specs.InputLines.{byte_in_front, lines, kept_line, meant_kept, longer, keeps, comes, Room, Feeds, line_in, begun, gives}
use Rattle.play_lines.specs.declared.Line.{Line}
use Rattle.play_lines.specs.declared.Fed.{Fed}
use Rattle.play_lines.specs.declared.Fed.TheVariants.{More, Whole}
use Rattle.play_numbers.proofs.Basics.{by_cases}

-- one byte in the code
module _ (xs : List ℕ) (s : Line) (b : ℕ) (h : Room xs s) where
  pub feeds_whole : b ≡ 10 → Feeds xs s b xs (Whole s)
  unfolding comes
  feeds_whole e = record { right = rw (eq-eqb b 10 e); room = h; long = refl }

  kept_long : length (take s.len xs) ≡ s.len
  kept_long = length-take-le s.len xs (omega arith)

  module _ (e : b ≡ 10 → ⊥) where
    pub feeds_more : s.len < line_width → Feeds xs s b (set xs s.len b) (More (record { len = s.len + 1; over = s.over }))
    unfolding comes longer
    feeds_more k =
        let i : s.len < length xs = omega arith in
        let l : length (set xs s.len b) ≡ length xs = length-set xs s.len b in
        record {
          right = rw (ne_eqb b 10 e, kept_long, lt-ltb s.len line_width k, add-one s.len, take-suc-set xs s.len b i);
          room = record { buffer = omega arith; line = omega arith };
          long = l;
        }

    pub feeds_over : line_width ≤ s.len → Feeds xs s b xs (More (record { len = s.len; over = true }))
    unfolding comes longer
    feeds_over k =
        record { right = rw (ne_eqb b 10 e, kept_long, le-ltb s.len line_width k); room = record { buffer = h.buffer; line = h.line }; long = refl }

pub begun_len : (s : Line) (xs : List ℕ) → Room xs s → leb 1 s.len ≡ begun (keeps xs s)
begun_len s xs h = rw (length-take-le s.len xs (omega arith))

-- room for the next byte, or for a new line
pub room_more : (xs : List ℕ) {r : Fed} {s : Line} → r ≡ More s → Room xs (line_in r) → Room xs s
room_more xs e h = rw e at h

pub room_whole : (xs : List ℕ) {r : Fed} {s : Line} → r ≡ Whole s → Room xs (line_in r) → Room xs s
room_whole xs e h = rw e at h

pub room_start : (xs : List ℕ) (s : Line) → line_width ≤ length xs → s.len ≡ 0 → Room xs s
room_start xs s h e = record { buffer = h; line = omega arith }

-- the command of a gathered line
module _ (xs : List ℕ) (s : Line) where
  pub gathered_over : s.over ≡ true → malformed ≡ meant_kept (keeps xs s)
  unfolding meant_kept
  gathered_over e = rw e

  pub gathered_line : {m : Meaning} → s.over ≡ false → m ≡ meant (take s.len xs) → m ≡ meant_kept (keeps xs s)
  unfolding meant_kept
  gathered_line e w = rw e w

-- a new line
pub keeps_none : (xs : List ℕ) (s : Line) → s.len ≡ 0 → s.over ≡ false → keeps xs s ≡ kept_line []
keeps_none xs s e f = λ i. record { bytes = (let q : take s.len xs ≡ [] = rw e in q) i; over = f i }

-- what is kept of a line means what the line does
pub kept_means : (xs : List ℕ) → meant_kept (kept_line xs) ≡ meant xs
unfolding meant_kept meant
kept_means xs =
    by_cases (ltb line_width (length xs))
    (λ t. rw t)
    (λ t. let h : length xs ≤ line_width = ltb-false line_width (length xs) t in rw (take_all line_width xs h, t))

-- one byte more is kept as of the line with one byte more
pub kept_longer : (xs : List ℕ) (b : ℕ) → longer (kept_line xs) b ≡ kept_line (xs ++ (b ∷ []))
unfolding longer
kept_longer xs b =
    let n : length (xs ++ (b ∷ [])) ≡ length xs + 1 = length-append xs (b ∷ []) in
    by_cases (ltb (length xs) line_width)
    (λ t.
    let h : length xs < line_width = ltb-true (length xs) line_width t in
    let o : ltb line_width (length xs) ≡ false = le-ltb line_width (length xs) (omega arith) in
    let p : ltb line_width (length xs + 1) ≡ false = le-ltb line_width (length xs + 1) (omega arith) in
    let q : take line_width xs ≡ xs = take_all line_width xs (omega arith) in
    let u : take line_width (xs ++ (b ∷ [])) ≡ xs ++ (b ∷ []) = take_all line_width (xs ++ (b ∷ [])) (omega arith) in
    rw (q, u, n, o, p, t))
    (λ t.
    let h : line_width ≤ length xs = ltb-false (length xs) line_width t in
    let m : length (take line_width xs) ≡ line_width = length-take-le line_width xs h in
    let p : ltb line_width (length xs + 1) ≡ true = lt-ltb line_width (length xs + 1) (omega arith) in
    let u : take line_width (xs ++ (b ∷ [])) ≡ take line_width xs = take-append-le line_width xs (b ∷ []) h in
    rw (u, n, p, m))

-- the lines whose first has xs in front
front : List ℕ → List (List ℕ) → List (List ℕ)
front xs [] = cond (leb 1 (length xs)) (xs ∷ []) []
front xs (l ∷ ls) = (xs ++ l) ∷ ls

front_none : (ls : List (List ℕ)) → front [] ls ≡ ls
unfolding front
front_none [] = refl
front_none (l ∷ ls) = refl

front_more : (xs : List ℕ) (b : ℕ) (ls : List (List ℕ)) → front xs (byte_in_front b ls) ≡ front (xs ++ (b ∷ [])) ls
unfolding front
front_more xs b [] =
    let n : length (xs ++ (b ∷ [])) ≡ length xs + 1 = length-append xs (b ∷ []) in
    rw (le-leb 1 (length (xs ++ (b ∷ []))) (omega arith))
front_more xs b (l ∷ ls) = ap (λ m. m ∷ ls) (sym (append_assoc xs (b ∷ []) l))

kept_begun : (xs : List ℕ) → begun (kept_line xs) ≡ leb 1 (length xs)
kept_begun [] = refl
kept_begun (x ∷ xs) = le-leb 1 (suc (length (take (line_width - 1) xs))) (omega arith) ∙ sym (le-leb 1 (suc (length xs)) (omega arith))

map_begun : (t : Bool) (xs : List ℕ) → cond t (kept_line xs ∷ []) [] ≡ map kept_line (cond t (xs ∷ []) [])
map_begun true xs = refl
map_begun false xs = refl

gives_front : (bs xs : List ℕ) → gives bs (kept_line xs) ≡ map kept_line (front xs (lines bs))
unfolding gives lines front comes
gives_front [] xs = rw (kept_begun xs) (map_begun (leb 1 (length xs)) xs)
gives_front (b ∷ bs) xs =
    by_cases (eqb b 10)
    (λ t. rw (t, append-nil xs) (ap (λ l. kept_line xs ∷ l) (gives_front bs [] ∙ ap (map kept_line) (front_none (lines bs)))))
    (λ t. rw (t, kept_longer xs b, front_more xs b (lines bs)) (gives_front bs (xs ++ (b ∷ []))))

-- bytes fed one by one give the lines of the input
pub gives_lines : (bs : List ℕ) → gives bs (kept_line []) ≡ map kept_line (lines bs)
gives_lines bs = gives_front bs [] ∙ ap (map kept_line) (front_none (lines bs))

pub ruleset gather_rules = (rules, feeds_whole, feeds_more, feeds_over, begun_len, gathered_over, gathered_line)
