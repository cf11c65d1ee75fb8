-- Records read and numbers written, one at a time. Assumes nothing.
use mathlib.Core.Path.{◌≡◌, refl, sym, ap, ◌∙◌}
use mathlib.Core.List.{List, [], ◌∷◌, ◌++◌}
use Prim.Native.Nat.{ℕ, zero, suc, ◌+◌, ◌*◌, ◌/◌, ◌%◌, ◌^◌, ◌<◌, ◌≤◌, min}
use native.Mathlib.Numerals.{add-one}
use native.Mathlib.Omega.{arith}
use lib.ListN.{length, take, drop, set, get_or, drop_of_length-le, length-append, length-replicate, length-take, take-append-drop}
use lib.Seq.{take-suc-set, drop-drop}
use Rattle.std.proofs.lemmas.List.{drop-set-lt}
use Rattle.text.specs.Printed.{printed, Page, with_text}
use Rattle.std.specs.Int.{to_be_bytes, w64}
use Rattle.text.proofs.Reading.{at}
use Rattle.text.proofs.Printing.{Laid, then, fits_place, printed_on}
use Rattle.call_table.specs.Tables.{shows, no_bytes}
use Rattle.rows.specs.Rows.{capacity}
use Rattle.ids.specs.declared.NatToken.{NatToken}
use Rattle.ids.specs.declared.ConnectionId.{ConnectionId}
use Rattle.dials.specs.declared.Column.{Column}
use Rattle.dials.specs.Dials.{each}
use Rattle.live_dials.specs.declared.Live.{Live}
use Rattle.ledger_calls.specs.Records.{up_to, live_at, records, lives_in, lives_over, octets, numbers_bytes, tokens_bytes, connections_bytes}
use Rattle.ledger_calls.specs.Calls.{dropped_said}

-- ---- records

abbrev pub lives : List ℕ → ℕ → List Live
lives s k = live_at s (16 * k) ∷ []

module _ (s : List ℕ) (room rows : List Live) (k : ℕ) (inv : take k rows ≡ up_to (lives s) k) (rest : drop k rows ≡ drop k room) where
  pub live_next : {x : Live} → k < length rows → x ≡ live_at s (16 * k) → take (k + 1) (set rows k x) ≡ up_to (lives s) (k + 1)
  unfolding up_to
  live_next {x} h e = rw (add-one k, take-suc-set rows k x h, inv, e)

  pub rest_next : (x : Live) → drop (k + 1) (set rows k x) ≡ drop (k + 1) room
  rest_next x =
      let h : k < k + 1 = omega arith in
      drop-set-lt (k + 1) rows k x h ∙ sym (drop-drop 1 k rows) ∙ ap (drop 1) rest ∙ drop-drop 1 k room

  module _ {n : ℕ} (e : n ≡ records s) (f : k ≡ n) where
    pub lives_all : take n rows ≡ lives_in s
    unfolding lives_in
    lives_all = ap (λ (m : ℕ). take m rows) (sym f) ∙ inv ∙ ap (up_to (lives s)) (f ∙ e)

    pub lives_laid : rows ≡ lives_over room s
    unfolding lives_over
    lives_laid = sym (take-append-drop n rows) ∙ rw (lives_all, ← e, ← f) (ap (λ (xs : List Live). lives_in s ++ xs) rest)

-- ---- numbers

-- a number's bytes as the library gives them
pub octets_are : (v : ℕ) → v < 2 ^ 64 → to_be_bytes w64 v ≡ octets v
unfolding octets
octets_are v h = let z : v / 2 ^ 56 % 256 ≡ v / 2 ^ 56 = omega arith in rw z

-- one more of the numbers
pub numbers_more : (p q whole : Page) (ns : List ℕ) (i : ℕ) → i < length ns → q ≡ with_text p (octets (get_or ns i 0))
    → with_text p (numbers_bytes (drop i ns)) ≡ whole → with_text q (numbers_bytes (drop (i + 1) ns)) ≡ whole
unfolding each
numbers_more p q whole ns i h = printed_on p q whole (octets (get_or ns i 0)) (numbers_bytes (drop (i + 1) ns)) (rw (at ns i h) refl)

pub numbers_none : (ns : List ℕ) (i : ℕ) → length ns ≤ i → numbers_bytes (drop i ns) ≡ []
unfolding each
numbers_none ns i h = rw (drop_of_length-le ns h)

-- numbers of 8 bytes each
numbers_length : (f : ℕ → List ℕ) → ((k : ℕ) → length (f k) ≡ 8) → (n : ℕ) → length (up_to f n) ≡ 8 * n
unfolding up_to
numbers_length f g zero = refl
numbers_length f g (suc n) = omega (arith, length-append (up_to f n) (f n), g n, numbers_length f g n)

-- ---- what an abort answers

numbers_few : (ns : List ℕ) → length (numbers_bytes ns) ≤ 8 * length ns
unfolding each octets
numbers_few [] = omega arith
numbers_few (n ∷ ns) = omega (arith, length-append (octets n) (numbers_bytes ns), numbers_few ns)

used_few : (ns : List ℕ) (n : ℕ) → length (numbers_bytes (take (min n capacity) ns)) ≤ 512
used_few ns n = omega (arith, numbers_few (take (min n capacity) ns), length-take (min n capacity) ns)

tokens_few : (t : Column NatToken) → length (tokens_bytes t) ≤ 512
unfolding tokens_bytes
tokens_few t = used_few _ t.count

connections_few : (c : Column ConnectionId) → length (connections_bytes c) ≤ 512
unfolding connections_bytes
connections_few c = used_few _ c.count

room : length no_bytes ≡ 8192
unfolding no_bytes
room = length-replicate {A = ℕ} 8192 0

-- the buffer and the place of a page with a text more
pub laid_by : {o x : List ℕ} (r : ℕ) {p q : ℕ} {t : List ℕ} {s : ℕ} → record { reference = s; bytes = x; at = q } ≡ with_text (record { reference = r; bytes = o; at = p }) t → Laid o p t x q
unfolding with_text
laid_by r e = record { bytes = ap (λ (p : Page). p.bytes) e; place = ap (λ (p : Page). p.at) e }

module _ (t : Column NatToken) (c : Column ConnectionId) {o x y : List ℕ} {m e : ℕ} (n : o ≡ no_bytes) (f : Laid o 0 (tokens_bytes t) x m) (g : Laid x m (connections_bytes c) y e) where
  size : length o ≡ 8192
  size = ap length n ∙ room

  middle : m ≡ length (tokens_bytes t)
  middle = f.place ∙ fits_place o (tokens_bytes t) (omega (arith, tokens_few t, size))

  end : e ≡ length (tokens_bytes t) + length (connections_bytes c)
  end =
      let l = length-append (tokens_bytes t) (connections_bytes c) in
      (then f g).place ∙ fits_place o (tokens_bytes t ++ connections_bytes c) (omega (arith, tokens_few t, connections_few c, size)) ∙ l

  shown : y ≡ printed no_bytes 0 (tokens_bytes t ++ connections_bytes c)
  shown = (then f g).bytes ∙ ap (λ (b : List ℕ). printed b 0 (tokens_bytes t ++ connections_bytes c)) n

  pub dropped_shown : shows 1 (0 ∷ m ∷ m ∷ e ∷ 0 ∷ 0 ∷ []) y ≡ dropped_said t c
  unfolding dropped_said
  dropped_shown = rw (middle, end, shown)
