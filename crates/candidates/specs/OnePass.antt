-- The choice in one pass, as the functions of this crate go about it; that it is section 7's choice is proved.
use Rattle.std.specs.Prelude.{ℕ, ◌+◌, Bool, true, List, [], ◌∷◌, ◌++◌}
use Rattle.prelude.specs.Choice.{pick, both, no, bit}
use Rattle.address.specs.Words.{may_be_target}
use Rattle.address.specs.declared.Ip.{Ip}
use Rattle.candidates.specs.Entries.{contains, of_address, in_family, has_ip}
use Rattle.candidates.specs.Selection.{counted, room_for}
use Rattle.candidates.specs.declared.Limits.{Limits}
use Rattle.candidates.specs.declared.Counts.{Counts}
use Rattle.candidates.specs.declared.Source.{Source}
use Rattle.candidates.specs.declared.Source.TheVariants.{Peer, Own, Any}

abbrev pub tallied : Ip → Counts → List ℕ → Counts
tallied ip n a = record { total = n.total + 1; family = n.family + bit (in_family ip a); ip = n.ip + bit (has_ip ip a) }

abbrev pub suits : Source → List (List ℕ) → List ℕ → Ip → Bool
suits (Peer private) xs a ip = may_be_target private ip
suits Own xs a ip = no (contains a xs)
suits Any xs a ip = true

unfoldable pub wanted_from : Limits → Source → List (List ℕ) → List ℕ → Bool
wanted_from l source xs a = of_address (λ ip port. both (suits source xs a ip) (room_for l (counted ip xs) port)) a

abbrev pub kept_from : Limits → Source → List (List ℕ) → List ℕ → List (List ℕ)
kept_from l source xs a = pick (wanted_from l source xs a) (xs ++ (a ∷ [])) xs
