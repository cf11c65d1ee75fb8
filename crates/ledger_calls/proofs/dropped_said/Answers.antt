use mathlib.Core.Path.{◌≡◌, ap, ◌∙◌}
use mathlib.Core.List.{List, map}
use Prim.Native.Nat.{ℕ}
use native.Mathlib.Omega.{arith}
use lib.ListN.{take}
use Rattle.std.proofs.Common.{rules}
use Rattle.ids.specs.declared.NatToken.{NatToken}
use Rattle.ids.specs.declared.ConnectionId.{ConnectionId}
use Rattle.text.specs.Printed.{Page, with_text}
use Rattle.rows.proofs.Arrays.{mapped}
use Rattle.ledger_calls.specs.Records.{numbers_bytes, tokens_bytes, connections_bytes}
use Rattle.ledger_calls.proofs.Numbers.{laid_by, dropped_shown}
use Rattle.ledger_calls.proofs.dropped_said.Goals as goal

in_use : {ns ms : List ℕ} {n m : ℕ} → n ≡ m → ns ≡ ms → numbers_bytes (take n ns) ≡ numbers_bytes (take m ms)
in_use {ns} {ms} {n} {m} e f = ap (λ (k : ℕ). numbers_bytes (take k ns)) e ∙ ap (λ (xs : List ℕ). numbers_bytes (take m xs)) f

pub returns : goal.returns
unfolding tokens_bytes connections_bytes with_text
returns c =
    let r = c.args.retired in
    let k = c.args.close in
    let ts : c.map-tokens.result ≡ map (λ (t : NatToken). t.0) r.values = mapped (λ (t : NatToken). t.0) (record { 0 = 0 }) _ r.values c.map-tokens.result (λ x y q h. search rules) 64 (omega arith) c.map-tokens.ensures.items in
    let cs : c.map-connections.result ≡ map (λ (x : ConnectionId). x.0) k.values = mapped (λ (x : ConnectionId). x.0) (record { 0 = 0 }) _ k.values c.map-connections.result (λ x y q h. search rules) 64 (omega arith) c.map-connections.ensures.items in
    let ref1 = ap (λ (p : Page). p.reference) c.put_numbers.ensures in
    let ref2 = ap (λ (p : Page). p.reference) c.put_numbers-2.ensures in
    c.show.ensures ∙ search (rules, ref1, ref2) ∙ dropped_shown r k c.no_bytes-bytes.ensures
    (laid_by _ (c.put_numbers.ensures ∙ ap (with_text _) (in_use c.in_use.ensures ts)))
    (laid_by _ (c.put_numbers-2.ensures ∙ ap (with_text _) (in_use c.in_use-2.ensures cs)))
