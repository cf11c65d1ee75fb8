-- Which bytes stand for an address (RULES.md, section 6): the parts of the table's row, one behind the other, and nothing more.
use Rattle.std.specs.Prelude.{◌≡◌, List, [], ◌∷◌, ◌++◌, ℕ, ◌≤◌, length}
use Rattle.address.specs.Multiaddr.{big_endian}
use Rattle.address.specs.declared.Ip.{Ip}
use Rattle.address.specs.declared.Ip.TheVariants.{V4, V6}

-- no name; or p2p, a length byte, and as many bytes, 1 to 127
pub data Ending : List ℕ → Type 0 where
  bare : Ending []
  named : (name : List ℕ) → 1 ≤ length name → length name ≤ 127 → Ending (0xa5 ∷ 0x03 ∷ length name ∷ name)

-- the family's code, the IP, udp with its port, quic-v1, and the ending
abbrev pub joined : ℕ → List ℕ → List ℕ → List ℕ → List ℕ
joined family ip port end = family ∷ (ip ++ (0x91 ∷ 0x02 ∷ (port ++ (0xcd ∷ 0x03 ∷ end))))

-- four bytes of IP, or twice eight, and two of port, the most significant byte first
pub data Stands : List ℕ → Ip → ℕ → Type 0 where
  v4 : (ip port end : List ℕ) → length ip ≡ 4 → length port ≡ 2 → Ending end → Stands (joined 0x04 ip port end) (V4 (big_endian 0 ip)) (big_endian 0 port)
  v6 : (high low port end : List ℕ) → length high ≡ 8 → length low ≡ 8 → length port ≡ 2 → Ending end
      → Stands (joined 0x29 (high ++ low) port end) (V6 (big_endian 0 high) (big_endian 0 low)) (big_endian 0 port)
