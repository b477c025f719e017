-- Laws of writing bytes into a buffer.
use Prim.Native.Nat.{ℕ, zero, suc, ◌+◌, ◌-◌, ◌*◌, ◌/◌, ◌%◌, ◌≤◌, ◌<◌}
use mathlib.Core.Path.{◌≡◌, refl, sym, ap, ◌∙◌}
use mathlib.Core.List.{List, [], ◌∷◌, ◌++◌, append_assoc, append-nil}
use native.Mathlib.Numerals.{add-one}
use native.Mathlib.Omega.{arith}
use borrow.Author.Rules.{rules}
use lib.ListN.{length, take, drop, set, length-append, length-set, take-append-drop}
use lib.Seq.{drop-drop, drop-cons, take_at, drop_at, take-set-le, drop-set-add, set_split, length-take-le}
use Rattle.play_print.specs.Decimal.{decimal}
use Rattle.play_print.specs.PrintedLines.{overwritten, one, spaced_number, spaced_numbers, printed, Wrote, field_width}
use Rattle.play_print.specs.declared.LineAnswer.TheVariants.{Answer, Refusal, Unknown}
use Rattle.play_print.proofs.Digits.{decimal_one, decimal_more, decimal_longer, decimal_short, decimal_some}

-- one byte
set_put : (xs : List ℕ) (a b : ℕ) → a < length xs → set xs a b ≡ overwritten a xs (one b)
set_put xs a b h = rw (add-one a) (set_split xs a b h)

-- bytes after bytes
module _ (xs ys zs us vs : List ℕ) (a b r : ℕ) (w : Wrote xs a ys zs b) (v : Wrote zs b us vs r) where
  front : length (take a xs ++ ys) ≡ b
  front = length-append (take a xs) ys ∙ rw (length-take-le a xs (let n = w.next in let k = w.within in omega arith)) (sym w.next)

  split : zs ≡ (take a xs ++ ys) ++ drop (a + length ys) xs
  split = w.is ∙ sym (append_assoc (take a xs) ys (drop (a + length ys) xs))

  head : take b zs ≡ take a xs ++ ys
  head = ap (take b) split ∙ take_at (take a xs ++ ys) (drop (a + length ys) xs) b front

  tail : drop (b + length us) zs ≡ drop (a + length (ys ++ us)) xs
  tail =
      let n : a + length ys + length us ≡ a + length (ys ++ us) = rw (length-append ys us) (omega arith) in
      sym (drop-drop (length us) b zs)
      ∙ ap (λ l. drop (length us) (drop b l)) split
      ∙ ap (drop (length us)) (drop_at (take a xs ++ ys) (drop (a + length ys) xs) b front)
      ∙ drop-drop (length us) (a + length ys) xs
      ∙ ap (λ k. drop k xs) n

  pub joined : Wrote xs a (ys ++ us) vs r
  joined =
      record {
        is =
            v.is
            ∙ rw (head, tail) (append_assoc (take a xs) ys (us ++ drop (a + length (ys ++ us)) xs))
            ∙ ap (λ l. take a xs ++ l) (sym (append_assoc ys us (drop (a + length (ys ++ us)) xs)));
        next = rw (length-append ys us) (let n = w.next in let m = v.next in omega arith);
        long = v.long ∙ w.long;
        within = let k = v.within in let l = w.long in omega arith;
      }

-- the last of some bytes is in its place already
last_put : (out ys : List ℕ) (at y : ℕ) → at + length ys < length out → overwritten at out (ys ++ one y) ≡ overwritten at (set out (at + length ys) y) ys
last_put out ys at y h =
    let n : at + length (ys ++ one y) ≡ suc (at + length ys) = rw (length-append ys (one y)) (omega arith) in
    let t : take at (set out (at + length ys) y) ≡ take at out = take-set-le at out (at + length ys) y (omega arith) in
    let z : at + length ys ≡ at + length ys + 0 = omega arith in
    let d : drop (at + length ys) (set out (at + length ys) y) ≡ y ∷ drop (suc (at + length ys)) out =
    ap (λ k. drop (at + length ys) (set out k y)) z
    ∙ drop-set-add (at + length ys) out 0 y
    ∙ ap (λ l. set l 0 y) (drop-cons out (at + length ys) 0 h)
    in
    rw (n, t, d, append_assoc ys (one y) (drop (suc (at + length ys)) out))

-- a number, its last digit first: m is what is left to write, up to the place k
pub record Writes (xs : List ℕ) (at n : ℕ) (out : List ℕ) (m k : ℕ) : Type 0 where
  pub long : length out ≡ length xs
  pub place : k ≡ at + length (decimal m)
  pub room : k ≤ length xs
  pub left : overwritten at xs (decimal n) ≡ overwritten at out (decimal m)

module _ (xs : List ℕ) (at n : ℕ) (out : List ℕ) (m k : ℕ) (w : Writes xs at n out m k) where
  pub writes_some : 1 ≤ k
  writes_some = let s = decimal_some m in omega arith

  pub writes_next : (d : ℕ) → 10 ≤ m → d ≡ 48 + m % 10 → Writes xs at n (set out (k - 1) d) (m / 10) (k - 1)
  writes_next d h e =
      let g : length (decimal m) ≡ length (decimal (m / 10)) + 1 = decimal_longer m h in
      let q : k - 1 ≡ at + length (decimal (m / 10)) = omega arith in
      let i : at + length (decimal (m / 10)) < length out = omega arith in
      record {
        long = length-set out (k - 1) d ∙ w.long;
        place = q;
        room = omega arith;
        left = w.left ∙ rw (decimal_more m h, q, e) (last_put out (decimal (m / 10)) at (48 + m % 10) i);
      }

  pub writes_end : (d c : ℕ) → m < 10 → d ≡ 48 + m % 10 → c ≡ length (decimal n) → at + c ≤ length xs → Wrote xs at (decimal n) (set out at d) (at + c)
  writes_end d c h e g r =
      let s : length (decimal m) ≡ 1 = decimal_short m h in
      let q : d ≡ 48 + m = rw e (ap (λ i. 48 + i) (let z : m % 10 ≡ m = omega arith in z)) in
      let i : at < length out = omega arith in
      let p : set out at d ≡ overwritten at out (decimal m) = rw (q, decimal_one m h) (set_put out at (48 + m) i) in
      record {
        is = p ∙ sym w.left;
        next = ap (λ i. at + i) g;
        long = length-set out at d ∙ w.long;
        within = r;
      }

-- a space and a number
pub wrote_field : (xs zs vs : List ℕ) (a b r n : ℕ) → Wrote xs a (one 32) zs b → Wrote zs b (decimal n) vs r → Wrote xs a (spaced_number n) vs r
unfolding spaced_number
wrote_field xs zs vs a b r n w v = joined xs (one 32) zs (decimal n) vs a b r w v

-- numbers, each after a space
spaced_append : (ns ms : List ℕ) → spaced_numbers (ns ++ ms) ≡ spaced_numbers ns ++ spaced_numbers ms
unfolding spaced_numbers
spaced_append [] ms = refl
spaced_append (n ∷ ns) ms = ap (λ l. spaced_number n ++ l) (spaced_append ns ms) ∙ sym (append_assoc (spaced_number n) (spaced_numbers ns) (spaced_numbers ms))

-- none are left where the count or the list is used up
none_left : (left : ℕ) (rest : List ℕ) → (0 < left → length rest ≡ 0) → take left rest ≡ []
none_left zero rest h = refl
none_left (suc k) [] h = refl
none_left (suc k) (n ∷ ns) h = let e : length (n ∷ ns) ≡ 0 = h (omega arith) in absurd (omega arith)

-- those that are done are written, up to the place a, and of the rest so many are left to write
pub record WritesFields (xs : List ℕ) (at : ℕ) (ns : List ℕ) (fields : ℕ) (out : List ℕ) (a : ℕ) (rest : List ℕ) (left : ℕ) : Type 0 where
  pub done : List ℕ
  pub wrote : Wrote xs at (spaced_numbers done) out a
  pub wanted : done ++ take left rest ≡ take fields ns
  pub most : a + field_width * length rest ≤ at + field_width * length ns
  pub room : at + field_width * length ns ≤ length xs

module _ (xs : List ℕ) (at : ℕ) (ns : List ℕ) (fields : ℕ) where
  pub fields_start : at + field_width * length ns ≤ length xs → WritesFields xs at ns fields xs at ns fields
  unfolding spaced_numbers
  fields_start h =
      record {
        done = [];
        wrote = record { is = let z : at + 0 ≡ at = omega arith in rw z (sym (take-append-drop at xs)); next = omega arith; long = refl; within = omega arith };
        wanted = refl;
        most = omega arith;
        room = h;
      }

  module _ (out : List ℕ) (a : ℕ) (rest : List ℕ) (left : ℕ) (f : WritesFields xs at ns fields out a rest left) where
    module _ (n : ℕ) (rest' : List ℕ) (is : rest ≡ n ∷ rest') where
      longer : length rest ≡ length rest' + 1
      longer = ap length is ∙ sym (add-one (length rest'))

      pub fields_room : a + field_width ≤ length out
      fields_room = let h = longer in let l = f.wrote.long in let m = f.most in let r = f.room in omega arith

      pub fields_next : (left' : ℕ) → left' + 1 ≡ left → (zs : List ℕ) (b : ℕ) → Wrote out a (spaced_number n) zs b × (b ≤ a + field_width) → WritesFields xs at ns fields zs b rest' left'
      unfolding spaced_numbers
      fields_next left' e zs b w =
          let h = longer in
          let m = f.most in
          let t : take left rest ≡ n ∷ take left' rest' = rw (is, ← e, add-one left') in
          record {
            done = f.done ++ one n;
            wrote =
                rw (spaced_append f.done (one n), append-nil (spaced_number n))
                (joined xs (spaced_numbers f.done) out (spaced_number n) zs at a b f.wrote w.0);
            wanted = append_assoc f.done (one n) (take left' rest') ∙ ap (λ l. f.done ++ l) (sym t) ∙ f.wanted;
            most = let k = w.1 in omega arith;
            room = f.room;
          }

    pub fields_end : (0 < left → length rest ≡ 0) → Wrote xs at (spaced_numbers (take fields ns)) out a × (a ≤ at + field_width * length ns)
    fields_end h =
        let t : take left rest ≡ [] = none_left left rest h in
        let d : f.done ≡ take fields ns = sym (append-nil f.done) ∙ ap (λ l. f.done ++ l) (sym t) ∙ f.wanted in
        let m = f.most in
        (rw (← d) f.wrote, omega arith)

-- the lines
module _ (xs : List ℕ) (at letter : ℕ) {x₁ : List ℕ} {a₁ : ℕ} (w₁ : Wrote xs at (one letter) x₁ a₁) where
  pub wrote_answer : {x₂ x₃ : List ℕ} {a₂ a₃ : ℕ} (fields n k e : ℕ)
      → Wrote x₁ a₁ (spaced_numbers (take fields (n ∷ k ∷ e ∷ []))) x₂ a₂ → Wrote x₂ a₂ (one 10) x₃ a₃ → Wrote xs at (printed (Answer letter fields n k e)) x₃ a₃
  unfolding printed
  wrote_answer {x₂} {x₃} {a₂} {a₃} fields n k e w₂ w₃ =
      let ys = spaced_numbers (take fields (n ∷ k ∷ e ∷ [])) in
      joined xs (one letter) x₁ (ys ++ one 10) x₃ at a₁ a₃ w₁ (joined x₁ ys x₂ (one 10) x₃ a₁ a₂ a₃ w₂ w₃)

  pub wrote_refusal : {x₂ x₃ x₄ x₅ : List ℕ} {a₂ a₃ a₄ a₅ : ℕ} (n : ℕ) → Wrote x₁ a₁ (one 32) x₂ a₂ → Wrote x₂ a₂ (one 33) x₃ a₃ → Wrote x₃ a₃ (spaced_number n) x₄ a₄ → Wrote x₄ a₄ (one 10) x₅ a₅ → Wrote xs at (printed (Refusal letter n)) x₅ a₅
  unfolding printed
  wrote_refusal {x₂} {x₃} {x₄} {x₅} {a₂} {a₃} {a₄} {a₅} n w₂ w₃ w₄ w₅ =
      joined xs (one letter) x₁ (32 ∷ 33 ∷ (spaced_number n ++ one 10)) x₅ at a₁ a₅ w₁
      (joined x₁ (one 32) x₂ (33 ∷ (spaced_number n ++ one 10)) x₅ a₁ a₂ a₅ w₂
      (joined x₂ (one 33) x₃ (spaced_number n ++ one 10) x₅ a₂ a₃ a₅ w₃ (joined x₃ (spaced_number n) x₄ (one 10) x₅ a₃ a₄ a₅ w₄ w₅)))

pub wrote_unknown : (xs x₁ x₂ : List ℕ) (at a₁ a₂ : ℕ) → Wrote xs at (one 63) x₁ a₁ → Wrote x₁ a₁ (one 10) x₂ a₂ → Wrote xs at (printed Unknown) x₂ a₂
unfolding printed
wrote_unknown xs x₁ x₂ at a₁ a₂ w₁ w₂ = joined xs (one 63) x₁ (one 10) x₂ at a₁ a₂ w₁ w₂

pub ruleset print_rules = (rules, wrote_field, wrote_answer, wrote_refusal, wrote_unknown)
