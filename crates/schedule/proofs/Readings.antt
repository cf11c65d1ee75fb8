-- A window and its schedule go together, reading by reading.
-- Assumes nothing.
use mathlib.Core.Path.{◌≡◌, refl, sym, ◌∙◌, ap}
use mathlib.Core.Bool.{Bool, true, false}
use mathlib.Core.List.{List, [], ◌∷◌}
use Prim.Native.Nat.{ℕ, ◌+◌, ◌-◌, ◌*◌, ◌/◌, ◌≤◌, ◌<◌, min, max}
use native.Mathlib.Nat.{sub_self, zero-div, mul-lt-mul_of_pos_right}
use native.Mathlib.Omega.{arith}
use borrow.Author.Tests.{leb-true, leb-false, le-leb}
use lib.ListN.{length, get_or, take, drop, length-take}
use lib.Seq.{drop-nil, drop-drop, take-add, get_or-take}
use lib.Dec.{leb, eqb}
use Rattle.prelude.specs.Choice.{pick}
use Rattle.time.specs.Time.{last}
use Rattle.schedule.specs.Instants.{instants, count_to}
use Rattle.schedule.specs.Schedule.{ahead, schedule_of, without, times_of, due_of, window_of, opened_of}
use Rattle.schedule.specs.Readings.{Largest, none, larger, largest_of, counted, sum_of, sent_of, sum_all, sent_all, Once, FirstWithReply}
use Rattle.schedule.specs.declared.BlastSchedule.{BlastSchedule}
use Rattle.schedule.specs.declared.BlastSchedule.TheVariants.{Next, Over}
use Rattle.schedule.proofs.Instants.{instants_none, instants_some, length_none, length_some, length_le, length_skip, drop_instants, count_early, instant_at, fits_mul}
use Rattle.schedule.proofs.Counted.{counted_is, counted_larger}

ahead_of : (start until i : ℕ) → ahead i (schedule_of until (instants start i until)) ≡ instants start i until
unfolding ahead
ahead_of start until i = go (leb start until) refl
  where
    go : (b : Bool) → leb start until ≡ b → ahead i (schedule_of until (instants start i until)) ≡ instants start i until
    go true q =
        let e : instants start i until ≡ start ∷ instants (start + max i 1) i until = instants_some start i until (leb-true _ _ q) in
        ap (λ (l : List ℕ). ahead i (schedule_of until l)) e
    go false q =
        let e : instants start i until ≡ [] = instants_none start i until (leb-false _ _ q) in
        rw e

-- without the first n, all others are ahead
pub ahead_without : (n i : ℕ) (q : BlastSchedule) → ahead i (without n i q) ≡ drop n (ahead i q)
unfolding without ahead
ahead_without n i (Next at until) =
    rw (drop_instants n at i until) (ahead_of (at + n * max i 1) until i)
ahead_without n i Over = sym (drop-nil n)

pub ahead_window : (start until i : ℕ) → ahead i (window_of start until) ≡ instants start i until
unfolding window_of ahead
ahead_window start until i = go (leb start until) refl
  where
    go : (b : Bool) → leb start until ≡ b → ahead i (pick b (Next start until) Over) ≡ instants start i until
    go true q = refl
    go false q = sym (instants_none start i until (leb-false _ _ q))

-- the schedule of a window in which those readings came: what did not count yet is ahead
abbrev pub Stands : ℕ → ℕ → ℕ → ℕ → Largest → BlastSchedule → Type 0
Stands i start until rtt m q = ahead i q ≡ drop (counted i start until rtt m) (instants start i until)

module _ (i start until rtt : ℕ) (m : Largest) (q : BlastSchedule) (h : Stands i start until rtt m q) where
  newly : (at : ℕ) → count_to at (ahead i q) ≡ length (instants start i (min until at)) - counted i start until rtt m
  newly at =
      let n : ℕ = counted i start until rtt m in
      rw (h, drop_instants n start i until) (count_early at (start + n * max i 1) i until ∙ length_skip n start i (min until at))

  -- a reading at which no more than 2^64 − 1 instants are due
  pub tick_times : (at : ℕ) → length (instants start i (min until at)) ≤ last
      → counted i start until rtt m + (due_of q i at).times ≡ counted i start until rtt (larger at m)
  unfolding due_of times_of
  tick_times at k = omega (arith, newly at, counted_larger i start until rtt at m)

  pub tick_stands : (at : ℕ) → length (instants start i (min until at)) ≤ last → Stands i start until rtt (larger at m) (due_of q i at).schedule
  unfolding due_of
  tick_stands at k =
      let t : ℕ = times_of q i at in
      let n : ℕ = counted i start until rtt m in
      let e : n + t ≡ counted i start until rtt (larger at m) = tick_times at k in
      ahead_without t i q ∙ rw h (drop-drop t n (instants start i until) ∙ rw e)

-- a reading below the largest time is such a one
pub below_fits : (start i until at : ℕ) → at < last → length (instants start i (min until at)) ≤ last
below_fits start i until at h = omega (arith, length_le start i (min until at))

module _ (start until i rtt : ℕ) where
  first_count : count_to start (ahead i (window_of start until)) ≡ pick (leb start until) 1 0
  first_count = rw (ahead_window start until i) (count_early start start i until ∙ go (leb start until) refl)
    where
      go : (b : Bool) → leb start until ≡ b → length (instants start i (min until start)) ≡ pick b 1 0
      go true q =
          let k : start ≤ until = leb-true _ _ q in
          let e : min until start ≡ start = omega arith in
          let z : (start - start) / max i 1 ≡ 0 = rw (sub_self start) (zero-div (max i 1)) in
          rw e (length_some start i start (max i 1) refl (omega arith) ∙ omega arith)
      go false q = let k : until < start = leb-false _ _ q in length_none start i (min until start) (omega arith)

  pub opened_times : (opened_of start until i rtt).times ≡ counted i start until rtt none
  unfolding opened_of due_of times_of
  opened_times = go (eqb rtt 0) refl (leb start until) refl
    where
      go : (z : Bool) → eqb rtt 0 ≡ z → (b : Bool) → leb start until ≡ b → (opened_of start until i rtt).times ≡ counted i start until rtt none
      go true p true q = rw p (omega (arith, rw q at first_count, rw (p, q) at (counted_is start i until none rtt)))
      go true p false q = rw p (omega (arith, rw q at first_count, rw (p, q) at (counted_is start i until none rtt)))
      go false p b q = rw p (omega (arith, rw p at (counted_is start i until none rtt)))

  pub opened_stands : Stands i start until rtt none (opened_of start until i rtt).schedule
  unfolding opened_of due_of
  opened_stands = go (eqb rtt 0) refl
    where
      go : (z : Bool) → eqb rtt 0 ≡ z → Stands i start until rtt none (opened_of start until i rtt).schedule
      go true p =
          let e : times_of (window_of start until) i start ≡ counted i start until rtt none = rw p at opened_times in
          rw p (ahead_without (times_of (window_of start until) i start) i (window_of start until) ∙ rw (ahead_window start until i, e))
      go false p =
          let e : 0 ≡ counted i start until rtt none = rw p at opened_times in
          rw (p, sym e) (ahead_window start until i)

-- more readings never count fewer
counted_mono : (i start until rtt : ℕ) (m : Largest) (ats : List ℕ) → counted i start until rtt m ≤ counted i start until rtt (largest_of m ats)
unfolding largest_of
counted_mono i start until rtt m [] = omega arith
counted_mono i start until rtt m (at ∷ ats) =
    omega (arith, counted_larger i start until rtt at m, counted_mono i start until rtt (larger at m) ats)

pub sums : (i start until rtt : ℕ) (m : Largest) (q : BlastSchedule) (ats : List ℕ) → Stands i start until rtt m q
    → counted i start until rtt (largest_of m ats) ≤ last
    → counted i start until rtt m + sum_of q i ats ≡ counted i start until rtt (largest_of m ats)
unfolding largest_of sum_of
sums i start until rtt m q [] h k = omega arith
sums i start until rtt m q (at ∷ ats) h k =
    let l : length (instants start i (min until at)) ≤ last
    = omega (arith, counted_larger i start until rtt at m, counted_mono i start until rtt (larger at m) ats) in
    omega (
      arith,
      tick_times i start until rtt m q h at l,
      sums i start until rtt (larger at m) (due_of q i at).schedule ats (tick_stands i start until rtt m q h at l) k,
    )

pub counts_add_up : (start until i rtt : ℕ) (ats : List ℕ) → counted i start until rtt (largest_of none ats) ≤ last
    → sum_all start until i rtt ats ≡ counted i start until rtt (largest_of none ats)
unfolding sum_all
counts_add_up start until i rtt ats k =
    omega (
      arith,
      opened_times start until i rtt,
      sums i start until rtt none (opened_of start until i rtt).schedule ats (opened_stands start until i rtt) k,
    )

-- the only window with more than 2^64 − 1 instants
pub count_fits : (start until i at : ℕ) → until ≤ last → last < count_to at (instants start i until)
    → (start ≡ 0) × (until ≡ last) × (i ≤ 1) × (last ≤ at)
count_fits start until i at u h = go (leb start (min until at)) refl
  where
    e : count_to at (instants start i until) ≡ length (instants start i (min until at))
    e = count_early at start i until

    go : (b : Bool) → leb start (min until at) ≡ b → (start ≡ 0) × (until ≡ last) × (i ≤ 1) × (last ≤ at)
    go true q =
        let l : length (instants start i (min until at)) ≡ (min until at - start) / max i 1 + 1
        = length_some start i (min until at) (max i 1) refl (leb-true _ _ q) in
        let p : last * max i 1 ≤ min until at - start = fits_mul last (min until at - start) (max i 1) (omega arith) (omega (arith, e)) in
        (omega arith, omega arith, omega arith, omega arith)
    go false q = absurd (omega (arith, e, length_none start i (min until at) (leb-false _ _ q)))

pub due_ahead : (q : BlastSchedule) (i at : ℕ) → ahead i (due_of q i at).schedule ≡ drop (due_of q i at).times (ahead i q)
unfolding due_of
due_ahead q i at = ahead_without (times_of q i at) i q

-- what went out is the front of what was ahead
front_of : (q : BlastSchedule) (i : ℕ) (ats : List ℕ) → sent_of q i ats ≡ take (sum_of q i ats) (ahead i q)
unfolding sent_of sum_of
front_of q i [] = refl
front_of q i (at ∷ ats) =
    let t : ℕ = (due_of q i at).times in
    let a : ahead i (due_of q i at).schedule ≡ drop t (ahead i q) = due_ahead q i at in
    rw (front_of (due_of q i at).schedule i ats, a) (sym (take-add t (sum_of (due_of q i at).schedule i ats) (ahead i q)))

ascends : (start i until n j k : ℕ) → j < k → k < length (take n (instants start i until))
    → get_or (take n (instants start i until)) j 0 < get_or (take n (instants start i until)) k 0
ascends start i until n j k h l =
    let s : length (take n (instants start i until)) ≡ min n (length (instants start i until)) = length-take n (instants start i until) in
    let a : get_or (instants start i until) j 0 ≡ start + j * max i 1 = (instant_at start i until j (omega arith)).0 in
    let b : get_or (instants start i until) k 0 ≡ start + k * max i 1 = (instant_at start i until k (omega arith)).0 in
    let m : j * max i 1 < k * max i 1 = mul-lt-mul_of_pos_right h (omega arith) in
    rw (get_or-take n (instants start i until) j 0 (omega arith), get_or-take n (instants start i until) k 0 (omega arith)) (omega arith)

pub front : (start until i rtt : ℕ) (ats : List ℕ) → sent_all start until i rtt ats ≡ take (sum_all start until i rtt ats) (instants start i until)
unfolding sent_all sum_all
front start until i rtt ats =
    let t : ℕ = (opened_of start until i rtt).times in
    let a : ahead i (opened_of start until i rtt).schedule ≡ drop t (instants start i until)
    = opened_stands start until i rtt ∙ rw (opened_times start until i rtt) in
    rw (front_of (opened_of start until i rtt).schedule i ats, a)
    (sym (take-add t (sum_of (opened_of start until i rtt).schedule i ats) (instants start i until)))

pub once : (start until i rtt : ℕ) (ats : List ℕ) → Once start until i rtt ats
once start until i rtt ats =
    record {
      front = front start until i rtt ats;
      ascending = λ j k h l.
          rw (front start until i rtt ats)
          (ascends start i until (sum_all start until i rtt ats) j k h (rw (front start until i rtt ats) at l));
    }

pub first_with_reply : (start until i : ℕ) → start ≤ until → FirstWithReply start until i
first_with_reply start until i h = record { one = one; rest = rest; later = later }
  where
    c : counted i start until 0 none ≡ 1
    c = rw (le-leb start until h) at (counted_is start i until none 0)

    one : (opened_of start until i 0).times ≡ 1
    one = opened_times start until i 0 ∙ c

    rest : ahead i (opened_of start until i 0).schedule ≡ drop 1 (instants start i until)
    rest = opened_stands start until i 0 ∙ rw c

    later : (k : ℕ) → k < length (ahead i (opened_of start until i 0).schedule) → start < get_or (ahead i (opened_of start until i 0).schedule) k 0
    later k l =
        let d : drop 1 (instants start i until) ≡ instants (start + 1 * max i 1) i until = drop_instants 1 start i until in
        let e : ahead i (opened_of start until i 0).schedule ≡ instants (start + 1 * max i 1) i until = rest ∙ d in
        let a : get_or (instants (start + 1 * max i 1) i until) k 0 ≡ (start + 1 * max i 1) + k * max i 1
        = (instant_at (start + 1 * max i 1) i until k (rw e at l)).0 in
        rw e (omega arith)
