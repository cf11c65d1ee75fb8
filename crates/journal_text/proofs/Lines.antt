-- What is printed of a line stands in the buffer whole. Assumes nothing.
use mathlib.Core.Path.{◌≡◌, ap, ◌∙◌}
use mathlib.Core.Bool.{Bool}
use mathlib.Core.List.{List, ◌++◌}
use Prim.Native.Nat.{ℕ, ◌+◌, ◌-◌, ◌*◌, ◌≤◌}
use native.Mathlib.Omega.{arith}
use lib.ListN.{length, take, drop, length-append, length-take}
use lib.Seq.{sets-eq, take_at}
use Rattle.text.specs.Printed.{printed, behind, Page, with_text}
use Rattle.journal_prints.specs.Room.{room}
use Rattle.journal_calls.specs.Calls.{Journal, Turned}
use Rattle.journal_turns.specs.Turns.{line_turn}
use Rattle.journal_text.specs.Texts.{turn_text, line_text}

pub stands : (p : Page) (t : List ℕ) {q : Page} → q ≡ with_text p t → length t ≤ 4 * room → p.at + 4 * room ≤ length p.bytes
    → take q.at q.bytes ≡ take p.at p.bytes ++ t
unfolding with_text printed behind
stands p t e h k =
    let fit : length t ≤ length p.bytes - p.at = omega (arith) in
    let place : behind p.bytes p.at t ≡ p.at + length t = omega arith in
    rw e (
    rw (sets-eq t p.bytes p.at (omega arith), place)
    (take_at (take p.at p.bytes ++ t) (drop (p.at + length t) p.bytes) (p.at + length t) (omega (arith, length-append (take p.at p.bytes) t, length-take p.at p.bytes)))
    )

pub line_stands : (p : Page) (j : Journal) (reply line : List ℕ) (ended : Bool) {t : Turned} {q : Page} → t ≡ (line_turn j reply line ended).turn
    → q ≡ with_text p (turn_text t) → length (turn_text t) ≤ 4 * room → p.at + 4 * room ≤ length p.bytes
    → take q.at q.bytes ≡ take p.at p.bytes ++ line_text j reply line ended
unfolding line_text
line_stands p j reply line ended {t} e f h k = stands p (turn_text t) f h k ∙ ap (λ (x : Turned). take p.at p.bytes ++ turn_text x) e
