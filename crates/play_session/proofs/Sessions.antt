-- Sessions in the code: a byte, a chunk of bytes, and the end of the input.
use mathlib.Core.Path.{◌≡◌, refl, sym, ap, ◌∙◌}
use mathlib.Core.Bool.{Bool, true, false}
use mathlib.Core.List.{List, [], ◌∷◌, ◌++◌, append_assoc}
use Prim.Native.Nat.{ℕ, ◌+◌, ◌*◌, ◌≤◌, ◌<◌}
use native.Mathlib.Numerals.{add-one}
use native.Mathlib.Omega.{arith}
use borrow.Author.Rules.{rules}
use lib.ListN.{length, take, drop, get_or, length-append, drop_of_length-le}
use lib.Seq.{take_at, drop-cons, length-take-le}
use Rattle.play_lines.specs.declared.Line.{Line}
use Rattle.play_lines.specs.declared.Fed.{Fed}
use Rattle.play_lines.specs.declared.Fed.TheVariants.{More, Whole}
use Rattle.play_print.specs.declared.LineAnswer.{LineAnswer}
use Rattle.play_lines.specs.InputLines.{kept_line, keeps, meant_kept, came, Room, Feeds, begun}
use Rattle.play_print.specs.PrintedLines.{printed, Wrote, printed_width}
use Rattle.play_lines.proofs.FedBytes.{keeps_none, room_more, room_whole, room_start}
use Rattle.play_session.specs.declared.Progress.{Progress}
use Rattle.rules.specs.Entries.{lent}
use Rattle.play_calls.specs.Plays.{played, played_with}
use Rattle.play_session.specs.Sessions.{taken, fed, fed_all, ended, standing, Ready, Spacious, WroteWithin, Ends}

-- what stands in front after a write
wrote_front : (out : List ℕ) (at : ℕ) (ys zs : List ℕ) (r : ℕ) → Wrote out at ys zs r → take r zs ≡ take at out ++ ys
wrote_front out at ys zs r w =
    let n = w.next in
    let k = w.within in
    let l : length (take at out ++ ys) ≡ r = length-append (take at out) ys ∙ rw (length-take-le at out (omega arith)) (sym n) in
    ap (take r) (w.is ∙ sym (append_assoc (take at out) ys (drop (at + length ys) out))) ∙ take_at (take at out ++ ys) (drop (at + length ys) out) r l

-- A BYTE
module _ (xs out : List ℕ) (p : Progress) where
  pub ready_feeds : Ready xs out p → Room xs p.line
  ready_feeds h = h.room

  pub ready_prints : Ready xs out p → p.at + printed_width ≤ length out
  ready_prints h = h.space

  module _ (b : ℕ) {ys : List ℕ} {r : Fed} (feeds : Feeds xs p.line b ys r) where
    -- the line goes on
    module _ (l : Line) (e : r ≡ More l) where
      pub byte_more : (ws ss : List ℕ) (o : List ℕ) → standing ys ws ss l o ≡ fed (standing xs ws ss p.line o) b
      unfolding fed taken
      byte_more ws ss o = ap (taken (standing xs ws ss p.line o)) (ap (came ys) (sym e) ∙ feeds.right)

      pub within_more : WroteWithin ys out out p.at 1 (record { line = l; at = p.at })
      within_more = record { room = room_more ys e feeds.room; most = omega arith; long = refl }

    -- byte 10 ended it
    module _ (l : Line) (e : r ≡ Whole l) where
      pub whole_room : Room ys l
      whole_room = room_whole ys e feeds.room

      module _ (ws ss ds es : List ℕ) (o : LineAnswer) (plays : played_with o ds es ≡ played (meant_kept (keeps ys l)) (lent ws ss))
          (zs : List ℕ) (end : ℕ) (wrote : Wrote out p.at (printed o) zs end × (end ≤ p.at + printed_width))
          (n : Line) (new : (n.len ≡ 0) × (n.over ≡ false)) where
        pub byte_whole : standing ys ds es n (take end zs) ≡ fed (standing xs ws ss p.line (take p.at out)) b
        unfolding fed taken
        byte_whole =
            let t : lent ds es ≡ (played (meant_kept (keeps ys l)) (lent ws ss)).tables = ap (λ q. q.tables) plays in
            let q : o ≡ (played (meant_kept (keeps ys l)) (lent ws ss)).answer = ap (λ q. q.answer) plays in
            let f : take end zs ≡ take p.at out ++ printed (played (meant_kept (keeps ys l)) (lent ws ss)).answer =
            wrote_front out p.at (printed o) zs end wrote.0 ∙ ap (λ u. take p.at out ++ printed u) q
            in
            let k : keeps ys n ≡ kept_line [] = keeps_none ys n new.0 new.1 in
            let s : standing ys ds es n (take end zs) ≡ taken (standing xs ws ss p.line (take p.at out)) (came ys (Whole l)) =
            λ i. record { line = k i; tables = t i; output = f i }
            in
            s ∙ ap (taken (standing xs ws ss p.line (take p.at out))) (ap (came ys) (sym e) ∙ feeds.right)

        pub within_whole : WroteWithin ys out zs p.at 1 (record { line = n; at = end })
        within_whole =
            record {
              room = room_start ys n whole_room.buffer new.0;
              most = let m = wrote.1 in omega arith;
              long = wrote.0.long;
            }

pub ruleset byte_rules = (rules, ready_feeds, ready_prints, byte_more, within_more, whole_room, byte_whole, within_whole)

-- A CHUNK: as much is left to do as from its start, with i bytes passed
pub record Along (words₀ slots₀ buffer₀ out₀ : List ℕ) (s : Line) (chunk words slots buffer out : List ℕ) (p : Progress) (i : ℕ) : Type 0 where
  pub same : fed_all (standing buffer words slots p.line (take p.at out)) (drop i chunk) ≡ fed_all (standing buffer₀ words₀ slots₀ s []) chunk
  pub passed : i ≤ length chunk
  pub room : Room buffer p.line
  pub most : p.at ≤ printed_width * i
  pub space : printed_width * length chunk ≤ length out₀
  pub out_long : length out ≡ length out₀
  pub words_long : length words ≡ length words₀
  pub slots_long : length slots ≡ length slots₀
  pub buffer_long : length buffer ≡ length buffer₀

module _ (ws₀ ss₀ xs₀ out₀ : List ℕ) (s : Line) (chunk : List ℕ) where
  pub along_starts : Spacious xs₀ out₀ s (length chunk) → Along ws₀ ss₀ xs₀ out₀ s chunk ws₀ ss₀ xs₀ out₀ (record { line = s; at = 0 }) 0
  along_starts h =
      record {
        same = refl;
        passed = omega arith;
        room = h.room;
        most = omega arith;
        space = h.space;
        out_long = refl;
        words_long = refl;
        slots_long = refl;
        buffer_long = refl;
      }

  module _ (ws ss xs out : List ℕ) (p : Progress) (i : ℕ) (a : Along ws₀ ss₀ xs₀ out₀ s chunk ws ss xs out p i) where
    pub along_ready : i < length chunk → Ready xs out p
    along_ready h = record { room = a.room; space = omega arith }

    pub along_next : i < length chunk → (ds es ys zs : List ℕ) (q : Progress)
        → (standing ys ds es q.line (take q.at zs) ≡ fed (standing xs ws ss p.line (take p.at out)) (get_or chunk i 0)) × WroteWithin ys out zs p.at 1 q
        → length ds ≡ length ws → length es ≡ length ss → length ys ≡ length xs
        → Along ws₀ ss₀ xs₀ out₀ s chunk ds es ys zs q (i + 1)
    unfolding fed_all
    along_next h ds es ys zs q f words_kept slots_kept buffer_kept =
        let d : drop i chunk ≡ get_or chunk i 0 ∷ drop (i + 1) chunk = rw (add-one i) (drop-cons chunk i 0 h) in
        let m = f.1.most in
        record {
          same =
              ap (λ t. fed_all t (drop (i + 1) chunk)) f.0
              ∙ ap (fed_all (standing xs ws ss p.line (take p.at out))) (sym d)
              ∙ a.same;
          passed = omega arith;
          room = f.1.room;
          most = omega arith;
          space = a.space;
          out_long = f.1.long ∙ a.out_long;
          words_long = words_kept ∙ a.words_long;
          slots_long = slots_kept ∙ a.slots_long;
          buffer_long = buffer_kept ∙ a.buffer_long;
        }

    pub along_ends : length chunk ≤ i → standing xs ws ss p.line (take p.at out) ≡ fed_all (standing xs₀ ws₀ ss₀ s []) chunk
    unfolding fed_all
    along_ends h = ap (fed_all (standing xs ws ss p.line (take p.at out))) (sym (drop_of_length-le chunk h)) ∙ a.same

    pub along_within : length chunk ≤ i → WroteWithin xs out₀ out 0 (length chunk) p
    along_within h = record { room = a.room; most = omega arith; long = a.out_long }

pub ruleset chunk_rules = (rules, along_starts, along_ready, along_next, along_ends, along_within)

-- THE END
module _ (xs ws ss out : List ℕ) (s : Line) (h : Spacious xs out s 1) (b : Bool) (told : (ys : List ℕ) → Room ys s → b ≡ begun (keeps ys s)) where
  begun_is : b ≡ begun (keeps xs s)
  begun_is = told xs h.room

  pub ends_none : b ≡ false → Ends (ended (standing xs ws ss s [])) ws ss out 0
  unfolding ended
  ends_none e =
      let f : begun (keeps xs s) ≡ false = sym begun_is ∙ e in
      record { tables = rw f; output = rw f; within = omega arith }

  pub ends_last : b ≡ true → (ds es : List ℕ) (o : LineAnswer) → played_with o ds es ≡ played (meant_kept (keeps xs s)) (lent ws ss)
      → (zs : List ℕ) (end : ℕ) → Wrote out 0 (printed o) zs end × (end ≤ 0 + printed_width) → Ends (ended (standing xs ws ss s [])) ds es zs end
  unfolding ended taken
  ends_last e ds es o plays zs end wrote =
      let f : begun (keeps xs s) ≡ true = sym begun_is ∙ e in
      let q : o ≡ (played (meant_kept (keeps xs s)) (lent ws ss)).answer = ap (λ q. q.answer) plays in
      let k = wrote.0.within in
      let l = wrote.0.long in
      record {
        tables = rw f (ap (λ q. q.tables) plays);
        output = rw f (wrote_front out 0 (printed o) zs end wrote.0 ∙ ap printed q);
        within = omega arith;
      }

pub ruleset end_rules = (rules, ends_none, ends_last)
