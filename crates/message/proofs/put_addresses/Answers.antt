-- `message::put_addresses` meets its contract: a turn takes the field in front, and what follows it is left.
use Rattle.std.proofs.Common.{ℕ, List, ◌≡◌, ap, refl, sym, subst, ◌∙◌, ◌+◌, ◌-◌, ◌≤◌, arith, length, length-drop}
use Rattle.std.specs.Prelude.{Some}
use Rattle.wire.proofs.Spans.{rest_of}
use lib.Seq.{sets}
use Rattle.wire.specs.Lists.{listed}
use Rattle.message.specs.Message.{scan, content_of, addresses}
use Rattle.message.proofs.Scan.{address_within}
use Rattle.message.proofs.Addresses.{left_end, left_none, Left, moved, left_entry}
use Rattle.message.proofs.put_addresses.Goals as goal

pub loop-field-init : goal.loop-field-init
loop-field-init c = (length c.args.s.now, 0, omega arith, omega arith, (c.requires.1, refl), refl)

pub loop-field-preserved-in-Address-1 : goal.loop-field-preserved-in-Address-1
loop-field-preserved-in-Address-1 c =
    let l = c.loop-field in
    let n = c.in-Address.start + c.in-Address.len in
    let d = c.in-Some.is ∙ ap Some c.in-Address.is in
    let z = address_within l.rest.now c.first_field.ensures d in
    rw (rest_of l.rest.now n) (
      l.invariant.0 - 1,
      l.invariant.1,
      omega (arith, length-drop n l.rest.now),
      omega (arith, length-drop n l.rest.now),
      left_entry l.rest.now c.first_field.ensures l.invariant.0 l.invariant.1 l.invariant.2 l.out l.p _ l.invariant.4 d c.put_entry.ensures,
      c.put_entry.auto.out ∙ l.invariant.5,
    )

pub loop-field-preserved : goal.loop-field-preserved
loop-field-preserved c =
    let l = c.loop-field in
    let s = l.rest.now in
    let n = c.in-Typed.size in
    let w = moved s c.first_field.ensures l.invariant.0 l.invariant.1 l.invariant.2 l.out l.p _ l.invariant.4 c.in-Some.is c.in-Typed.is in
    subst (λ (t : List ℕ). (m : ℕ) × (k : ℕ) × (length t ≤ m) × (l.p + length t ≤ length c.args.s.now)
    × Left (scan m k t) l.out l.p (sets c.args.out.now 0 (listed (addresses (content_of c.args.s.now)))) × (length l.out ≡ length c.args.out.now))
    (sym (rest_of s n))
    (l.invariant.0 - 1, w.0, omega (arith, w.1, length-drop n s), omega (arith, w.1, length-drop n s), w.2, l.invariant.5)

pub returns : goal.returns
returns c =
    let l = c.loop-field in
    let none = left_none l.rest.now c.first_field.ensures l.invariant.0 l.invariant.1 l.invariant.2 l.out l.p _ l.invariant.4 c.in_default.is in
    left_end l.rest.now l.invariant.0 l.invariant.1 l.out l.p _ none l.invariant.4
