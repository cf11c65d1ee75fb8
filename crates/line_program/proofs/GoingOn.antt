-- How a line goes on by what a block has of it, and by a block more. Assumes nothing.
use mathlib.Core.Path.{◌≡◌, refl, sym, ap, subst, ◌∙◌}
use mathlib.Core.List.{List, [], ◌∷◌, ◌++◌, append-nil, append_assoc}
use mathlib.Core.Bool.{Bool, true, false, not}
use Rattle.std.specs.Prelude.{Option, Some, None, is_some}
use Rattle.std.specs.Bool.{then_some}
use Prim.Native.Nat.{ℕ, zero, suc, ◌+◌, ◌*◌, ◌-◌, ◌<◌, ◌≤◌, min}
use native.Mathlib.Omega.{arith}
use lib.Dec.{ltb, eqb}
use lib.ListN.{length, get_or, take, drop, length-append, length-take, length-drop, drop_of_length-le}
use lib.Seq.{take_all, split_at, drop-drop}
use borrow.Author.Tests.{lt-ltb, le-ltb, ltb-true, ltb-false, eqb-true}
use Rattle.prelude.specs.Choice.{pick}
use Rattle.text.specs.Words.{length_before}
use Rattle.text.specs.Printed.{printed}
use Rattle.text.proofs.Printing.{Laid, laid_none, then}
use Rattle.lines.specs.Lines.{text_from, end_from, gathered}
use Rattle.lines.specs.declared.Gathered.{Gathered}
use Rattle.lines.proofs.Feeds.{joined}
use Rattle.line_program.specs.declared.Reading.{Reading}
use Rattle.line_program.specs.declared.End.{End}
use Rattle.line_program.specs.declared.End.TheVariants.{LineFeed, Input, Failure}
use Rattle.line_program.specs.Reads.{left, has_line, has_feed, has_more, has_failed, feed, refilled, Read, Turned}

-- ---- line feeds

-- the bytes before a line feed have none
pub plain_before : (s : List ℕ) → length_before 10 (take (length_before 10 s) s) ≡ length (take (length_before 10 s) s)
unfolding length_before
plain_before [] = refl
plain_before (b ∷ s) = go (eqb b 10) refl (plain_before s)
  where
    go : (t : Bool) → eqb b 10 ≡ t → length_before 10 (take (length_before 10 s) s) ≡ length (take (length_before 10 s) s)
        → length_before 10 (take (pick t 0 (suc (length_before 10 s))) (b ∷ s)) ≡ length (take (pick t 0 (suc (length_before 10 s))) (b ∷ s))
    go true e h = refl
    go false e h = rw e (ap suc h)

-- what stands behind them is one
pub feed_behind : (s : List ℕ) → length_before 10 s < length s → get_or s (length_before 10 s) 0 ≡ 10
unfolding length_before
feed_behind [] h = absurd (omega arith)
feed_behind (b ∷ s) h = go (eqb b 10) refl h (feed_behind s)
  where
    go : (t : Bool) → eqb b 10 ≡ t → pick t 0 (suc (length_before 10 s)) < suc (length s) → (length_before 10 s < length s → get_or s (length_before 10 s) 0 ≡ 10)
        → get_or (b ∷ s) (pick t 0 (suc (length_before 10 s))) 0 ≡ 10
    go true e k f = eqb-true b 10 e
    go false e k f = f (omega arith)

-- two texts without a line feed make one
plain_joined : (s t : List ℕ) → length_before 10 s ≡ length s → length_before 10 t ≡ length t → length_before 10 (s ++ t) ≡ length (s ++ t)
plain_joined s t p q = omega (arith, joined s t p, q, length-append s t)

-- bytes are those before their line feed, the line feed, and those behind it; without one they are all
pub split : (s : List ℕ) → s ≡ take (length_before 10 s) s ++ (feed (ltb (length_before 10 s) (length s)) ++ drop (suc (length_before 10 s)) s)
split s = go (ltb (length_before 10 s) (length s)) refl
  where
    go : (t : Bool) → ltb (length_before 10 s) (length s) ≡ t → s ≡ take (length_before 10 s) s ++ (feed t ++ drop (suc (length_before 10 s)) s)
    go true e =
        let h : length_before 10 s < length s = ltb-true _ _ e in
        split_at s (length_before 10 s) 0 h ∙ rw (feed_behind s h)
    go false e =
        let h : length s ≤ length_before 10 s = ltb-false _ _ e in
        rw (take_all (length_before 10 s) s h, drop_of_length-le s {i = suc (length_before 10 s)} (omega arith)) (sym (append-nil s))

-- ---- the steps

pub apart : {A : Type 0} → true ≡ false → A
apart e = let z : ◌≡◌ {A = ℕ} 0 1 = cc in absurd (omega arith)

-- nothing has been read yet
unread : (line block : List ℕ) (r : Reading) → has_feed r.end ≡ false → has_more r.end ≡ true → (has_failed r.end ≡ true → has_more r.end ≡ false) → Read line r.used (left block r.from r.until) block line r
unfolding length_before
unread line block r e m f =
    record {
      brought = [];
      text = [];
      whole = rw e (append-nil (left block r.from r.until));
      plain = refl;
      bytes = (laid_none line r.used).bytes;
      place = (laid_none line r.used).place;
      dry = λ d. apart (sym m ∙ d);
      failing = f;
    }

-- without an end it goes on
pub unended : (end : Option End) → is_some end ≡ false → (has_feed end ≡ false) × (has_more end ≡ true)
unended None h = (refl, refl)
unended (Some x) h = apart h

-- a line goes on where it was
unfoldable joins : {line : List ℕ} {used : ℕ} {had block after : List ℕ} {r : Reading} {block' after' : List ℕ} {r' : Reading}
    → Read line used had block after r → has_feed r.end ≡ false → Read after r.used (left block r.from r.until) block' after' r'
    → Read line used had block' after' r'
joins {line} {used} {had} {block} {after} {r} {block'} {after'} {r'} x e y =
    let l : Laid line used (x.text ++ y.text) after' r'.used =
    then (record { bytes = x.bytes; place = x.place }) (record { bytes = y.bytes; place = y.place })
    in
    let w : had ++ x.brought ≡ x.text ++ left block r.from r.until =
    x.whole ∙ ap (λ (t : Bool). x.text ++ (feed t ++ left block r.from r.until)) e
    in
    record {
      brought = x.brought ++ y.brought;
      text = x.text ++ y.text;
      whole =
          sym (append_assoc had x.brought y.brought)
          ∙ ap (λ (s : List ℕ). s ++ y.brought) w
          ∙ append_assoc x.text (left block r.from r.until) y.brought
          ∙ ap (λ (s : List ℕ). x.text ++ s) y.whole
          ∙ sym (append_assoc x.text y.text (feed (has_feed r'.end) ++ left block' r'.from r'.until));
      plain = plain_joined x.text y.text x.plain y.plain;
      bytes = l.bytes;
      place = l.place;
      dry = y.dry;
      failing = y.failing;
    }

-- by one turn more
pub goes_on : {turns n : ℕ} {line : List ℕ} {used : ℕ} {had block after : List ℕ} {r : Reading} {block' after' : List ℕ} {r' : Reading}
    → Turned turns line used had block after r → has_feed r.end ≡ false → has_more r.end ≡ true
    → Turned 1 after r.used (left block r.from r.until) block' after' r'
    → n ≡ turns + 1 → Turned n line used had block' after' r'
unfolding joins
goes_on x e m y k =
    record {
      read = joins x.read e y.read;
      taken = λ e' m'. omega (arith, x.taken e m, y.taken e' m', length-append x.read.text y.read.text);
    }

-- how a line stands by whether a line feed was met
fed : (b : Bool) → has_feed (then_some b LineFeed) ≡ b
fed true = refl
fed false = refl

still_more : (b : Bool) → has_more (then_some b LineFeed) ≡ true
still_more true = refl
still_more false = refl

unfailed : (b : Bool) → has_failed (then_some b LineFeed) ≡ false
unfailed true = refl
unfailed false = refl

-- by what the block has of the line
pub by_block : (block line : List ℕ) (used from until : ℕ) {g : Gathered} {after : List ℕ} → g ≡ gathered (take until block) from line used
    → after ≡ printed line used (text_from (take until block) from)
    → from < until → until ≤ length block
    → Turned 1 line used (left block from until) block after (record { used = g.used; end = then_some g.ended LineFeed; from = g.next; until = until })
by_block block line used from until {g} {after} e f h k = record { read = read; taken = λ d _. taken (sym (ap (λ (x : Gathered). x.ended) e) ∙ sym (fed g.ended) ∙ d) }
  where
    n : ℕ
    n = length_before 10 (left block from until)

    cut : (t : Bool) → ltb (end_from (take until block) from) (length (take until block)) ≡ t
        → text_from (take until block) from ++ (feed (ltb n (length (left block from until))) ++ drop (suc n) (left block from until))
        ≡ text_from (take until block) from ++ (feed t ++ drop (pick t (end_from (take until block) from + 1) (end_from (take until block) from)) (take until block))
    cut true d =
        let h : from + n < length (take until block) = ltb-true _ _ d in
        let k : from + suc n ≡ from + n + 1 = omega arith in
        rw (lt-ltb n (length (left block from until)) (omega (arith, length-drop from (take until block))), drop-drop (suc n) from (take until block), k)
    cut false d =
        let h : length (take until block) ≤ from + n = ltb-false _ _ d in
        rw (le-ltb n (length (left block from until)) (omega (arith, length-drop from (take until block))), drop-drop (suc n) from (take until block), drop_of_length-le (take until block) {i = from + suc n} (omega arith), drop_of_length-le (take until block) {i = from + n} h)

    read : Read line used (left block from until) block after (record { used = g.used; end = then_some g.ended LineFeed; from = g.next; until = until })
    read = record {
      brought = [];
      text = text_from (take until block) from;
      whole = append-nil (left block from until) ∙ split (left block from until) ∙ rw (fed g.ended, e) (cut (ltb (end_from (take until block) from) (length (take until block))) refl);
      plain = plain_before (left block from until);
      bytes = f;
      place = ap (λ (x : Gathered). x.used) e;
      dry = λ d. apart (sym (still_more g.ended) ∙ d);
      failing = λ d. apart (sym d ∙ unfailed g.ended);
    }

    -- without a line feed the line has all that was left
    taken : ltb (end_from (take until block) from) (length (take until block)) ≡ false
        → 1 + min 1 (length (left block from until)) ≤ 2 * length (text_from (take until block) from) + min 1 (length (left block g.next until))
    taken d =
        let l : length (take until block) ≤ from + n = ltb-false _ _ d in
        omega (arith, length-take until block, length-drop from (take until block), length-take n (left block from until))

-- by a block more, where the block has none left
pub by_read : (block₀ block line : List ℕ) (used from until : ℕ) {r : Reading} → until ≤ from → r ≡ refilled used r.until (has_failed r.end) → r.until ≤ length block
    → (has_failed r.end ≡ true → r.until ≡ 0) → Turned 1 line used (left block₀ from until) block line r
unfolding length_before
by_read block₀ block line used from until {r} h e k z = record { read = read; taken = λ _ m. taken (sym has_bytes ∙ m) }
  where
    no_feed : has_feed r.end ≡ false
    no_feed = ap (λ (x : Reading). has_feed x.end) e ∙ go (has_failed r.end) (ltb 0 r.until)
      where
        go : (f t : Bool) → has_feed (pick f (Some Failure) (pick t None (Some Input))) ≡ false
        go true t = refl
        go false true = refl
        go false false = refl

    -- the input may have more where the block has a byte
    has_bytes : has_more r.end ≡ ltb 0 r.until
    has_bytes = ap (λ (x : Reading). has_more x.end) e ∙ go (has_failed r.end) (ltb 0 r.until) (λ d. le-ltb 0 r.until (omega (arith, z d)))
      where
        go : (f t : Bool) → (f ≡ true → t ≡ false) → has_more (pick f (Some Failure) (pick t None (Some Input))) ≡ t
        go true t h = sym (h refl)
        go false true h = refl
        go false false h = refl

    none_left : ltb 0 r.until ≡ false → left block r.from r.until ≡ []
    none_left d =
        let h : r.until ≤ 0 = ltb-false 0 r.until d in
        drop_of_length-le (take r.until block) {i = r.from} (omega (arith, length-take r.until block))

    taken : ltb 0 r.until ≡ true → 1 + min 1 (length (left block₀ from until)) ≤ 2 * 0 + min 1 (length (left block r.from r.until))
    taken d =
        let l : 0 < r.until = ltb-true 0 r.until d in
        omega (arith, length-take until block₀, length-drop from (take until block₀), ap (λ (x : Reading). x.from) e, length-take r.until block, length-drop r.from (take r.until block))

    read : Read line used (left block₀ from until) block line r
    read = record {
      brought = left block r.from r.until;
      text = [];
      whole = rw (drop_of_length-le (take until block₀) {i = from} (omega (arith, length-take until block₀)), no_feed);
      plain = refl;
      bytes = (laid_none line used).bytes;
      place = ap (λ (x : Reading). x.used) e ∙ (laid_none line used).place;
      dry = λ d. (no_feed, none_left (sym has_bytes ∙ d));
      failing = λ d. has_bytes ∙ le-ltb 0 r.until (omega (arith, z d));
    }

-- a place past the block's end is its end
pub within : (block : List ℕ) (from until : ℕ) → left block from (min until (length block)) ≡ left block from until
within block from until = go (ltb (length block) until) refl
  where
    go : (t : Bool) → ltb (length block) until ≡ t → left block from (min until (length block)) ≡ left block from until
    go true e =
        let h : length block < until = ltb-true _ _ e in
        rw (take_all until block (omega arith), take_all (min until (length block)) block (omega arith))
    go false e = let h : until ≤ length block = ltb-false _ _ e in let m : min until (length block) ≡ until = omega arith in rw m

-- a line begins
pub begun : (line block : List ℕ) (from until : ℕ) {stop : ℕ} → stop ≡ min until (length block)
    → Turned 0 line 0 (left block from until) block line (record { used = 0; end = None; from = from; until = stop })
begun line block from until {stop} e =
    subst (λ (had : List ℕ). Turned 0 line 0 had block line (record { used = 0; end = None; from = from; until = stop }))
    (ap (λ (k : ℕ). left block from k) e ∙ within block from until)
    (record { read = unread line block (record { used = 0; end = None; from = from; until = stop }) refl refl (λ f. apart (sym f)); taken = λ _ _. omega arith })

-- ---- whole lines that are left

-- a part of a block, cut from either end first
part_of : (from until n : ℕ) (s : List ℕ) → n ≡ until - from → drop from (take until s) ≡ take n (drop from s)
part_of zero until n s h = let k : n ≡ until = omega arith in rw k
part_of (suc from) zero n s h = let k : n ≡ 0 = omega arith in rw k
part_of (suc from) (suc until) n [] h = go n
  where
    go : (n : ℕ) → [] ≡ take {A = ℕ} n []
    go zero = refl
    go (suc n) = refl
part_of (suc from) (suc until) n (b ∷ s) h = part_of from until n s (omega arith)

module _ (block : List ℕ) (from until : ℕ) {stop : ℕ} (e : stop ≡ min until (length block)) where
  pub none_left : stop ≤ from → false ≡ has_line (left block from until)
  unfolding has_line
  none_left h =
      sym (le-ltb (length_before 10 (left block from until)) (length (left block from until)) (omega (arith, length-drop from (take until block), length-take until block)))

  pub tested : {n : ℕ} → from < stop → n ≡ length_before 10 (take (stop - from) (drop from block)) → ltb n (stop - from) ≡ has_line (left block from until)
  unfolding has_line
  tested h f =
      let same : take (stop - from) (drop from block) ≡ left block from until =
      sym (part_of from stop (stop - from) block refl) ∙ ap (λ (k : ℕ). left block from k) e ∙ within block from until
      in
      let size : length (left block from until) ≡ stop - from = omega (arith, length-drop from (take until block), length-take until block) in
      rw (f, same, size)

-- a part of a text without a line feed has none
plain_part : (s t : List ℕ) → length_before 10 (s ++ t) ≡ length (s ++ t) → length_before 10 s ≡ length s
unfolding length_before
plain_part [] t h = refl
plain_part (b ∷ s) t h = go (eqb b 10) h (plain_part s t)
  where
    go : (d : Bool) → pick d 0 (suc (length_before 10 (s ++ t))) ≡ suc (length (s ++ t))
        → (length_before 10 (s ++ t) ≡ length (s ++ t) → length_before 10 s ≡ length s) → pick d 0 (suc (length_before 10 s)) ≡ suc (length s)
    go true k f = absurd (omega arith)
    go false k f = ap suc (f (omega arith))

-- what was read to the input's end without a line feed had no whole line
pub had_none : {line : List ℕ} {used : ℕ} {had block after : List ℕ} {r : Reading} → Read line used had block after r → has_feed r.end ≡ false → has_more r.end ≡ false
    → has_line had ≡ false
unfolding has_line
had_none {had = had} {block = block} {r = r} x e m =
    let w : had ++ x.brought ≡ x.text =
    x.whole
    ∙ ap (λ (t : Bool). x.text ++ (feed t ++ left block r.from r.until)) e
    ∙ ap (λ (s : List ℕ). x.text ++ s) (x.dry m).1
    ∙ append-nil x.text
    in
    let p : length_before 10 had ≡ length had = plain_part had x.brought (ap (length_before 10) w ∙ x.plain ∙ sym (ap length w)) in
    le-ltb (length_before 10 had) (length had) (omega arith)
