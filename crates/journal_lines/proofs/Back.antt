-- Each line is read from its text. Assumes nothing.
use mathlib.Core.Path.{◌≡◌, refl, ◌∙◌}
use mathlib.Core.List.{List, [], ◌∷◌}
use mathlib.Core.Bool.{Bool, true, false}
use Prim.Native.Nat.{ℕ, ◌≤◌}
use native.Mathlib.Omega.{arith}
use lib.Dec.{eqb}
use lib.ListN.{get_or, drop}
use lib.Seq.{get_or-drop}
use borrow.Author.Tests.{eq-eqb}
use Rattle.std.specs.Prelude.{None, Option, Some}
use Rattle.prelude.specs.Choice.{pick, either}
use Rattle.prelude.specs.Numbers.{max_u64}
use Rattle.text.specs.Words.{ascii, begins, is_word, length_before}
use Rattle.text.specs.Hexadecimal.{Bytes}
use Rattle.ids.specs.declared.ConnectId.{ConnectId}
use Rattle.ids.specs.declared.ConnectionId.{ConnectionId}
use Rattle.ids.specs.declared.NatToken.{NatToken}
use Rattle.ids.specs.declared.PeerId.{PeerId}
use Rattle.ids.specs.declared.StreamId.{StreamId}
use Rattle.vocabulary.specs.declared.Settings.{Settings}
use Rattle.vocabulary.specs.declared.StreamInput.{StreamInput}
use Rattle.vocabulary.specs.declared.StreamInput.TheVariants as input
use Rattle.forms.specs.Forms.{kind_of as mark_of, split, on_first, which_word}
use Rattle.forms.specs.Texts.{number, some, absent, pair, unpaired, bytes, word as chosenWord, kind_of_value, InRange, Fits, FitsFrom, is_form, is_form_from, value_in, values_from}
use Rattle.forms.specs.declared.Kind.TheVariants as mark
use Rattle.forms.proofs.Only.{get}
use Rattle.forms.proofs.Back.{got, got_none, words_read}
use Rattle.journal_lines.specs.Forms.{settings_form, start_form, up_form, input_form, tick_form, wrote_form, down_form, dial_form, forget_form, attribute_form}
use Rattle.journal_lines.specs.Lines.{word, is_second, kind_of, may_have_bytes, settings_in, settings_of, start_of, up_of, input_of, tick_of, wrote_of, down_of, dial_of, forget_of, attribute_of}
use Rattle.journal_lines.specs.Texts.{live_value, offer_value, chosen, kind_value, LiveFits, OfferFits, MayHave, settings_text, start_text, up_text, input_text, tick_text, wrote_text, down_text, dial_text, forget_text, attribute_text, SettingsAreRead, StartIsRead, UpIsRead, InputIsRead, TickIsRead, WroteIsRead, DownIsRead, DialIsRead, ForgetIsRead, AttributeIsRead}
use Rattle.journal_lines.specs.declared.Line.TheVariants.{Start, Up, Input, Tick, Wrote, Down, Dial, Forget, Attribute}
use Rattle.journal_lines.proofs.Made.{said_by_lem}

-- ---- a value is what its words mean

live_is : (t : Bool) (v : ℕ) (l : Option ConnectionId) → pick t absent (some v) ≡ live_value l → pick t None (Some (record { 0 = v })) ≡ l
live_is true v (Some conn) e = let z : ◌≡◌ {A = ℕ} 0 1 = cc in absurd (omega arith)
live_is true v None e = refl
live_is false v (Some conn) e = let z : v ≡ conn.0 = cc in rw z
live_is false v None e = let z : ◌≡◌ {A = ℕ} 0 1 = cc in absurd (omega arith)

offer_is : (t : Bool) (a b : ℕ) (o : Option (ConnectionId × StreamId)) → pick t unpaired (pair a b) ≡ offer_value o
    → pick t None (Some (record { 0 = a }, record { 0 = b })) ≡ o
offer_is true a b (Some (conn, stream)) e = let z : ◌≡◌ {A = ℕ} 0 1 = cc in absurd (omega arith)
offer_is true a b None e = refl
offer_is false a b (Some (conn, stream)) e = let y : a ≡ conn.0 = cc in let z : b ≡ stream.0 = cc in rw (y, z)
offer_is false a b None e = let z : ◌≡◌ {A = ℕ} 0 1 = cc in absurd (omega arith)

chosen_is : (k : ℕ) (p : Bool) → chosenWord k ≡ chosen p → is_second k ≡ p
chosen_is k true e = let z : k ≡ 1 = cc in rw z
chosen_is k false e = let z : k ≡ 0 = cc in rw z

kind_is : (k : ℕ) (i : StreamInput) → chosenWord k ≡ kind_value i → kind_of k ≡ i
kind_is k input.Ready e = let z : k ≡ 0 = cc in rw z
kind_is k input.Data e = let z : k ≡ 1 = cc in rw z
kind_is k input.RemoteWriteClosed e = let z : k ≡ 2 = cc in rw z
kind_is k input.Closed e = let z : k ≡ 3 = cc in rw z

-- bytes that a kind may have: of another kind than data there are none
may_have : (k : ℕ) (i : StreamInput) (brought line : List ℕ) (start end : ℕ) → chosenWord k ≡ kind_value i → MayHave i brought → got line start end ≡ brought
    → either (is_second k) (eqb start end) ≡ true
may_have k input.Ready brought line start end e m g = let z : k ≡ 0 = cc in rw (z, eq-eqb start end (got_none line start end (g ∙ m)))
may_have k input.Data brought line start end e m g = let z : k ≡ 1 = cc in rw z
may_have k input.RemoteWriteClosed brought line start end e m g = let z : k ≡ 2 = cc in rw (z, eq-eqb start end (got_none line start end (g ∙ m)))
may_have k input.Closed brought line start end e m g = let z : k ≡ 3 = cc in rw (z, eq-eqb start end (got_none line start end (g ∙ m)))

-- ---- each value fits its mark

live_fits : (ch : List ℕ) (l : Option ConnectionId) → LiveFits l → (kind_of_value (live_value l) ≡ mark.Maybe) × InRange ch (live_value l)
unfolding kind_of_value InRange
live_fits ch (Some conn) h = (refl, h)
live_fits ch None h = (refl, tt)

offer_fits : (ch : List ℕ) (o : Option (ConnectionId × StreamId)) → OfferFits o → (kind_of_value (offer_value o) ≡ mark.Pair) × InRange ch (offer_value o)
unfolding kind_of_value InRange
offer_fits ch (Some (conn, stream)) h = (refl, h)
offer_fits ch None h = (refl, tt)

bit_fits : (p : Bool) → (kind_of_value (chosen p) ≡ mark.Choice) × InRange (ascii "0/1") (chosen p)
unfolding kind_of_value InRange split on_first which_word is_word begins length_before
bit_fits true = (refl, (refl, refl))
bit_fits false = (refl, (refl, refl))

via_fits : (p : Bool) → (kind_of_value (chosen p) ≡ mark.Choice) × InRange (ascii "direct/circuit") (chosen p)
unfolding kind_of_value InRange split on_first which_word is_word begins length_before
via_fits true = (refl, (refl, refl))
via_fits false = (refl, (refl, refl))

kind_fits : (i : StreamInput) → (kind_of_value (kind_value i) ≡ mark.Choice) × InRange (ascii "ready/data/end/closed") (kind_value i)
unfolding kind_of_value InRange split on_first which_word is_word begins length_before
kind_fits input.Ready = (refl, (refl, refl))
kind_fits input.Data = (refl, (refl, refl))
kind_fits input.RemoteWriteClosed = (refl, (refl, refl))
kind_fits input.Closed = (refl, (refl, refl))

-- ---- start

start_form_lem : is_form start_form ≡ true
unfolding is_form is_form_from mark_of
start_form_lem = refl

start_fits : (at : ℕ) (source : PeerId) (relay : PeerId) (circuit : ConnectionId) → at ≤ max_u64 → source.0 ≤ max_u64 → relay.0 ≤ max_u64 → circuit.0 ≤ max_u64 → Fits start_form (number at ∷ number source.0 ∷ number relay.0 ∷ number circuit.0 ∷ [])
unfolding Fits FitsFrom mark_of InRange kind_of_value length_before
start_fits at source relay circuit h0 h1 h2 h3 = ((refl, h0), ((refl, h1), ((refl, h2), ((refl, h3), tt))))

module _ (take-bytes : ℕ → ℕ → List ℕ) (ws : List ℕ) (at : ℕ) (source : PeerId) (relay : PeerId) (circuit : ConnectionId) where
  abbrev StartMade : Type 0
  StartMade = (Some (start_of ws) ≡ Some (Start at source relay circuit))

  start_means : number (word ws 0) ∷ number (word ws 1) ∷ number (word ws 2) ∷ number (word ws 3) ∷ [] ≡ number at ∷ number source.0 ∷ number relay.0 ∷ number circuit.0 ∷ [] → StartMade
  start_means e =
      let x0 : word ws 0 ≡ at = cc in
      let x1 : word ws 1 ≡ source.0 = cc in
      let x2 : word ws 2 ≡ relay.0 = cc in
      let x3 : word ws 3 ≡ circuit.0 = cc in
      rw (x0, x1, x2, x3)

  start_made : values_from take-bytes false start_form ws ≡ number at ∷ number source.0 ∷ number relay.0 ∷ number circuit.0 ∷ [] → StartMade
  unfolding values_from value_in mark_of
  start_made e = start_means (simp get_or-drop at e)

pub start_back : StartIsRead
start_back at source relay circuit h0 h1 h2 h3 =
    let q = words_read start_form (number at ∷ number source.0 ∷ number relay.0 ∷ number circuit.0 ∷ []) start_form_lem (start_fits at source relay circuit h0 h1 h2 h3) in
    let r = start_made (get (start_text at source relay circuit)) q.0 at source relay circuit q.2 in
    said_by_lem (start_text at source relay circuit) 0 q.0 (omega arith) q.1 ∙ r

-- ---- up

up_form_lem : is_form up_form ≡ true
unfolding is_form is_form_from mark_of
up_form_lem = refl

up_fits : (at : ℕ) (peer : PeerId) (conn : ConnectionId) (circuit : Bool) (l : Option ConnectionId) (o : Option (ConnectionId × StreamId)) (pending : Bool) (own : List ℕ) → at ≤ max_u64 → peer.0 ≤ max_u64 → conn.0 ≤ max_u64 → LiveFits l → OfferFits o → Bytes own → Fits up_form (number at ∷ number peer.0 ∷ number conn.0 ∷ chosen circuit ∷ live_value l ∷ offer_value o ∷ chosen pending ∷ bytes own ∷ [])
unfolding Fits FitsFrom mark_of InRange kind_of_value length_before
up_fits at peer conn circuit l o pending own h0 h1 h2 h4 h5 h7 = ((refl, h0), ((refl, h1), ((refl, h2), (via_fits circuit, (live_fits _ l h4, (offer_fits _ o h5, (bit_fits pending, ((refl, h7), tt))))))))

module _ (take-bytes : ℕ → ℕ → List ℕ) (ws : List ℕ) (at : ℕ) (peer : PeerId) (conn : ConnectionId) (circuit : Bool) (l : Option ConnectionId) (o : Option (ConnectionId × StreamId)) (pending : Bool) (own : List ℕ) where
  abbrev UpMade : Type 0
  UpMade = (Some (up_of ws) ≡ Some (Up at peer conn circuit l o pending (record { start = word ws 10; end = word ws 11 }))) × (take-bytes (word ws 10) (word ws 11) ≡ own)

  up_means : number (word ws 0) ∷ number (word ws 1) ∷ number (word ws 2) ∷ chosenWord (word ws 3) ∷ pick (eqb (word ws 4) 0) absent (some (word ws 5)) ∷ pick (eqb (word ws 6) 0) unpaired (pair (word ws 7) (word ws 8)) ∷ chosenWord (word ws 9) ∷ bytes (take-bytes (word ws 10) (word ws 11)) ∷ [] ≡ number at ∷ number peer.0 ∷ number conn.0 ∷ chosen circuit ∷ live_value l ∷ offer_value o ∷ chosen pending ∷ bytes own ∷ [] → UpMade
  up_means e =
      let x0 : word ws 0 ≡ at = cc in
      let x1 : word ws 1 ≡ peer.0 = cc in
      let x2 : word ws 2 ≡ conn.0 = cc in
      let x3 = chosen_is (word ws 3) circuit cc in
      let x4 = live_is (eqb (word ws 4) 0) (word ws 5) l cc in
      let x5 = offer_is (eqb (word ws 6) 0) (word ws 7) (word ws 8) o cc in
      let x6 = chosen_is (word ws 9) pending cc in
      let x7 : take-bytes (word ws 10) (word ws 11) ≡ own = cc in
      (rw (x0, x1, x2, x3, x4, x5, x6), x7)

  up_made : values_from take-bytes false up_form ws ≡ number at ∷ number peer.0 ∷ number conn.0 ∷ chosen circuit ∷ live_value l ∷ offer_value o ∷ chosen pending ∷ bytes own ∷ [] → UpMade
  unfolding values_from value_in mark_of
  up_made e = up_means (simp get_or-drop at e)

pub up_back : UpIsRead
up_back at peer conn circuit l o pending own h0 h1 h2 h4 h5 h7 =
    let q = words_read up_form (number at ∷ number peer.0 ∷ number conn.0 ∷ chosen circuit ∷ live_value l ∷ offer_value o ∷ chosen pending ∷ bytes own ∷ []) up_form_lem (up_fits at peer conn circuit l o pending own h0 h1 h2 h4 h5 h7) in
    let r = up_made (get (up_text at peer conn circuit l o pending own)) q.0 at peer conn circuit l o pending own q.2 in
    (record { start = word q.0 10; end = word q.0 11 }, said_by_lem (up_text at peer conn circuit l o pending own) 1 q.0 (omega arith) q.1 ∙ r.0, r.1)

-- ---- input

input_form_lem : is_form input_form ≡ true
unfolding is_form is_form_from mark_of
input_form_lem = refl

input_fits : (at : ℕ) (stream : StreamId) (k : StreamInput) (brought : List ℕ) (l : Option ConnectionId) (o : Option (ConnectionId × StreamId)) (pending : Bool) (own : List ℕ) → at ≤ max_u64 → stream.0 ≤ max_u64 → Bytes brought → LiveFits l → OfferFits o → Bytes own → Fits input_form (number at ∷ number stream.0 ∷ kind_value k ∷ bytes brought ∷ live_value l ∷ offer_value o ∷ chosen pending ∷ bytes own ∷ [])
unfolding Fits FitsFrom mark_of InRange kind_of_value length_before
input_fits at stream k brought l o pending own h0 h1 h3 h4 h5 h7 = ((refl, h0), ((refl, h1), (kind_fits k, ((refl, h3), (live_fits _ l h4, (offer_fits _ o h5, (bit_fits pending, ((refl, h7), tt))))))))

module _ (take-bytes : ℕ → ℕ → List ℕ) (ws : List ℕ) (at : ℕ) (stream : StreamId) (k : StreamInput) (brought : List ℕ) (l : Option ConnectionId) (o : Option (ConnectionId × StreamId)) (pending : Bool) (own : List ℕ) where
  abbrev InputMade : Type 0
  InputMade = (may_have_bytes ws ≡ true → input_of ws ≡ Some (Input at stream k (record { start = word ws 3; end = word ws 4 }) l o pending (record { start = word ws 11; end = word ws 12 }))) × (take-bytes (word ws 3) (word ws 4) ≡ brought) × (take-bytes (word ws 11) (word ws 12) ≡ own) × (chosenWord (word ws 2) ≡ kind_value k)

  input_means : number (word ws 0) ∷ number (word ws 1) ∷ chosenWord (word ws 2) ∷ bytes (take-bytes (word ws 3) (word ws 4)) ∷ pick (eqb (word ws 5) 0) absent (some (word ws 6)) ∷ pick (eqb (word ws 7) 0) unpaired (pair (word ws 8) (word ws 9)) ∷ chosenWord (word ws 10) ∷ bytes (take-bytes (word ws 11) (word ws 12)) ∷ [] ≡ number at ∷ number stream.0 ∷ kind_value k ∷ bytes brought ∷ live_value l ∷ offer_value o ∷ chosen pending ∷ bytes own ∷ [] → InputMade
  input_means e =
      let x0 : word ws 0 ≡ at = cc in
      let x1 : word ws 1 ≡ stream.0 = cc in
      let x2 = kind_is (word ws 2) k cc in
      let x3 : take-bytes (word ws 3) (word ws 4) ≡ brought = cc in
      let x4 = live_is (eqb (word ws 5) 0) (word ws 6) l cc in
      let x5 = offer_is (eqb (word ws 7) 0) (word ws 8) (word ws 9) o cc in
      let x6 = chosen_is (word ws 10) pending cc in
      let x7 : take-bytes (word ws 11) (word ws 12) ≡ own = cc in
      (λ m. rw (m, x0, x1, x2, x4, x5, x6), x3, x7, cc)

  input_made : values_from take-bytes false input_form ws ≡ number at ∷ number stream.0 ∷ kind_value k ∷ bytes brought ∷ live_value l ∷ offer_value o ∷ chosen pending ∷ bytes own ∷ [] → InputMade
  unfolding values_from value_in mark_of
  input_made e = input_means (simp get_or-drop at e)

pub input_back : InputIsRead
input_back at stream k brought l o pending own h0 h1 m h3 h4 h5 h7 =
    let q = words_read input_form (number at ∷ number stream.0 ∷ kind_value k ∷ bytes brought ∷ live_value l ∷ offer_value o ∷ chosen pending ∷ bytes own ∷ []) input_form_lem (input_fits at stream k brought l o pending own h0 h1 h3 h4 h5 h7) in
    let r = input_made (get (input_text at stream k brought l o pending own)) q.0 at stream k brought l o pending own q.2 in
    let g = input_made (got (input_text at stream k brought l o pending own)) q.0 at stream k brought l o pending own q.3 in
    let t = may_have (word q.0 2) k brought (input_text at stream k brought l o pending own) (word q.0 3) (word q.0 4) r.3 m g.1 in
    (record { start = word q.0 3; end = word q.0 4 }, record { start = word q.0 11; end = word q.0 12 }, said_by_lem (input_text at stream k brought l o pending own) 2 q.0 (omega arith) q.1 ∙ r.0 t, r.1, r.2)

-- ---- tick

tick_form_lem : is_form tick_form ≡ true
unfolding is_form is_form_from mark_of
tick_form_lem = refl

tick_fits : (at : ℕ) (l : Option ConnectionId) (o : Option (ConnectionId × StreamId)) (own : List ℕ) → at ≤ max_u64 → LiveFits l → OfferFits o → Bytes own → Fits tick_form (number at ∷ live_value l ∷ offer_value o ∷ bytes own ∷ [])
unfolding Fits FitsFrom mark_of InRange kind_of_value length_before
tick_fits at l o own h0 h1 h2 h3 = ((refl, h0), (live_fits _ l h1, (offer_fits _ o h2, ((refl, h3), tt))))

module _ (take-bytes : ℕ → ℕ → List ℕ) (ws : List ℕ) (at : ℕ) (l : Option ConnectionId) (o : Option (ConnectionId × StreamId)) (own : List ℕ) where
  abbrev TickMade : Type 0
  TickMade = (Some (tick_of ws) ≡ Some (Tick at l o (record { start = word ws 6; end = word ws 7 }))) × (take-bytes (word ws 6) (word ws 7) ≡ own)

  tick_means : number (word ws 0) ∷ pick (eqb (word ws 1) 0) absent (some (word ws 2)) ∷ pick (eqb (word ws 3) 0) unpaired (pair (word ws 4) (word ws 5)) ∷ bytes (take-bytes (word ws 6) (word ws 7)) ∷ [] ≡ number at ∷ live_value l ∷ offer_value o ∷ bytes own ∷ [] → TickMade
  tick_means e =
      let x0 : word ws 0 ≡ at = cc in
      let x1 = live_is (eqb (word ws 1) 0) (word ws 2) l cc in
      let x2 = offer_is (eqb (word ws 3) 0) (word ws 4) (word ws 5) o cc in
      let x3 : take-bytes (word ws 6) (word ws 7) ≡ own = cc in
      (rw (x0, x1, x2), x3)

  tick_made : values_from take-bytes false tick_form ws ≡ number at ∷ live_value l ∷ offer_value o ∷ bytes own ∷ [] → TickMade
  unfolding values_from value_in mark_of
  tick_made e = tick_means (simp get_or-drop at e)

pub tick_back : TickIsRead
tick_back at l o own h0 h1 h2 h3 =
    let q = words_read tick_form (number at ∷ live_value l ∷ offer_value o ∷ bytes own ∷ []) tick_form_lem (tick_fits at l o own h0 h1 h2 h3) in
    let r = tick_made (get (tick_text at l o own)) q.0 at l o own q.2 in
    (record { start = word q.0 6; end = word q.0 7 }, said_by_lem (tick_text at l o own) 3 q.0 (omega arith) q.1 ∙ r.0, r.1)

-- ---- wrote

wrote_form_lem : is_form wrote_form ≡ true
unfolding is_form is_form_from mark_of
wrote_form_lem = refl

wrote_fits : (at : ℕ) (conn : ConnectionId) (stream : StreamId) → at ≤ max_u64 → conn.0 ≤ max_u64 → stream.0 ≤ max_u64 → Fits wrote_form (number at ∷ number conn.0 ∷ number stream.0 ∷ [])
unfolding Fits FitsFrom mark_of InRange kind_of_value length_before
wrote_fits at conn stream h0 h1 h2 = ((refl, h0), ((refl, h1), ((refl, h2), tt)))

module _ (take-bytes : ℕ → ℕ → List ℕ) (ws : List ℕ) (at : ℕ) (conn : ConnectionId) (stream : StreamId) where
  abbrev WroteMade : Type 0
  WroteMade = (Some (wrote_of ws) ≡ Some (Wrote at conn stream))

  wrote_means : number (word ws 0) ∷ number (word ws 1) ∷ number (word ws 2) ∷ [] ≡ number at ∷ number conn.0 ∷ number stream.0 ∷ [] → WroteMade
  wrote_means e =
      let x0 : word ws 0 ≡ at = cc in
      let x1 : word ws 1 ≡ conn.0 = cc in
      let x2 : word ws 2 ≡ stream.0 = cc in
      rw (x0, x1, x2)

  wrote_made : values_from take-bytes false wrote_form ws ≡ number at ∷ number conn.0 ∷ number stream.0 ∷ [] → WroteMade
  unfolding values_from value_in mark_of
  wrote_made e = wrote_means (simp get_or-drop at e)

pub wrote_back : WroteIsRead
wrote_back at conn stream h0 h1 h2 =
    let q = words_read wrote_form (number at ∷ number conn.0 ∷ number stream.0 ∷ []) wrote_form_lem (wrote_fits at conn stream h0 h1 h2) in
    let r = wrote_made (get (wrote_text at conn stream)) q.0 at conn stream q.2 in
    said_by_lem (wrote_text at conn stream) 4 q.0 (omega arith) q.1 ∙ r

-- ---- down

down_form_lem : is_form down_form ≡ true
unfolding is_form is_form_from mark_of
down_form_lem = refl

down_fits : (at : ℕ) (peer : PeerId) (conn : ConnectionId) → at ≤ max_u64 → peer.0 ≤ max_u64 → conn.0 ≤ max_u64 → Fits down_form (number at ∷ number peer.0 ∷ number conn.0 ∷ [])
unfolding Fits FitsFrom mark_of InRange kind_of_value length_before
down_fits at peer conn h0 h1 h2 = ((refl, h0), ((refl, h1), ((refl, h2), tt)))

module _ (take-bytes : ℕ → ℕ → List ℕ) (ws : List ℕ) (at : ℕ) (peer : PeerId) (conn : ConnectionId) where
  abbrev DownMade : Type 0
  DownMade = (Some (down_of ws) ≡ Some (Down at peer conn))

  down_means : number (word ws 0) ∷ number (word ws 1) ∷ number (word ws 2) ∷ [] ≡ number at ∷ number peer.0 ∷ number conn.0 ∷ [] → DownMade
  down_means e =
      let x0 : word ws 0 ≡ at = cc in
      let x1 : word ws 1 ≡ peer.0 = cc in
      let x2 : word ws 2 ≡ conn.0 = cc in
      rw (x0, x1, x2)

  down_made : values_from take-bytes false down_form ws ≡ number at ∷ number peer.0 ∷ number conn.0 ∷ [] → DownMade
  unfolding values_from value_in mark_of
  down_made e = down_means (simp get_or-drop at e)

pub down_back : DownIsRead
down_back at peer conn h0 h1 h2 =
    let q = words_read down_form (number at ∷ number peer.0 ∷ number conn.0 ∷ []) down_form_lem (down_fits at peer conn h0 h1 h2) in
    let r = down_made (get (down_text at peer conn)) q.0 at peer conn q.2 in
    said_by_lem (down_text at peer conn) 5 q.0 (omega arith) q.1 ∙ r

-- ---- dial

dial_form_lem : is_form dial_form ≡ true
unfolding is_form is_form_from mark_of
dial_form_lem = refl

dial_fits : (at : ℕ) (conn : ConnectionId) (token : NatToken) (id : ConnectId) → at ≤ max_u64 → conn.0 ≤ max_u64 → token.0 ≤ max_u64 → id.0 ≤ max_u64 → Fits dial_form (number at ∷ number conn.0 ∷ number token.0 ∷ number id.0 ∷ [])
unfolding Fits FitsFrom mark_of InRange kind_of_value length_before
dial_fits at conn token id h0 h1 h2 h3 = ((refl, h0), ((refl, h1), ((refl, h2), ((refl, h3), tt))))

module _ (take-bytes : ℕ → ℕ → List ℕ) (ws : List ℕ) (at : ℕ) (conn : ConnectionId) (token : NatToken) (id : ConnectId) where
  abbrev DialMade : Type 0
  DialMade = (Some (dial_of ws) ≡ Some (Dial at conn token id))

  dial_means : number (word ws 0) ∷ number (word ws 1) ∷ number (word ws 2) ∷ number (word ws 3) ∷ [] ≡ number at ∷ number conn.0 ∷ number token.0 ∷ number id.0 ∷ [] → DialMade
  dial_means e =
      let x0 : word ws 0 ≡ at = cc in
      let x1 : word ws 1 ≡ conn.0 = cc in
      let x2 : word ws 2 ≡ token.0 = cc in
      let x3 : word ws 3 ≡ id.0 = cc in
      rw (x0, x1, x2, x3)

  dial_made : values_from take-bytes false dial_form ws ≡ number at ∷ number conn.0 ∷ number token.0 ∷ number id.0 ∷ [] → DialMade
  unfolding values_from value_in mark_of
  dial_made e = dial_means (simp get_or-drop at e)

pub dial_back : DialIsRead
dial_back at conn token id h0 h1 h2 h3 =
    let q = words_read dial_form (number at ∷ number conn.0 ∷ number token.0 ∷ number id.0 ∷ []) dial_form_lem (dial_fits at conn token id h0 h1 h2 h3) in
    let r = dial_made (get (dial_text at conn token id)) q.0 at conn token id q.2 in
    said_by_lem (dial_text at conn token id) 6 q.0 (omega arith) q.1 ∙ r

-- ---- forget

forget_form_lem : is_form forget_form ≡ true
unfolding is_form is_form_from mark_of
forget_form_lem = refl

forget_fits : (at : ℕ) (conn : ConnectionId) → at ≤ max_u64 → conn.0 ≤ max_u64 → Fits forget_form (number at ∷ number conn.0 ∷ [])
unfolding Fits FitsFrom mark_of InRange kind_of_value length_before
forget_fits at conn h0 h1 = ((refl, h0), ((refl, h1), tt))

module _ (take-bytes : ℕ → ℕ → List ℕ) (ws : List ℕ) (at : ℕ) (conn : ConnectionId) where
  abbrev ForgetMade : Type 0
  ForgetMade = (Some (forget_of ws) ≡ Some (Forget at conn))

  forget_means : number (word ws 0) ∷ number (word ws 1) ∷ [] ≡ number at ∷ number conn.0 ∷ [] → ForgetMade
  forget_means e =
      let x0 : word ws 0 ≡ at = cc in
      let x1 : word ws 1 ≡ conn.0 = cc in
      rw (x0, x1)

  forget_made : values_from take-bytes false forget_form ws ≡ number at ∷ number conn.0 ∷ [] → ForgetMade
  unfolding values_from value_in mark_of
  forget_made e = forget_means (simp get_or-drop at e)

pub forget_back : ForgetIsRead
forget_back at conn h0 h1 =
    let q = words_read forget_form (number at ∷ number conn.0 ∷ []) forget_form_lem (forget_fits at conn h0 h1) in
    let r = forget_made (get (forget_text at conn)) q.0 at conn q.2 in
    said_by_lem (forget_text at conn) 7 q.0 (omega arith) q.1 ∙ r

-- ---- attribute

attribute_form_lem : is_form attribute_form ≡ true
unfolding is_form is_form_from mark_of
attribute_form_lem = refl

attribute_fits : (at : ℕ) (peer : PeerId) (conn : ConnectionId) (circuit : Bool) → at ≤ max_u64 → peer.0 ≤ max_u64 → conn.0 ≤ max_u64 → Fits attribute_form (number at ∷ number peer.0 ∷ number conn.0 ∷ chosen circuit ∷ [])
unfolding Fits FitsFrom mark_of InRange kind_of_value length_before
attribute_fits at peer conn circuit h0 h1 h2 = ((refl, h0), ((refl, h1), ((refl, h2), (via_fits circuit, tt))))

module _ (take-bytes : ℕ → ℕ → List ℕ) (ws : List ℕ) (at : ℕ) (peer : PeerId) (conn : ConnectionId) (circuit : Bool) where
  abbrev AttributeMade : Type 0
  AttributeMade = (Some (attribute_of ws) ≡ Some (Attribute at peer conn circuit))

  attribute_means : number (word ws 0) ∷ number (word ws 1) ∷ number (word ws 2) ∷ chosenWord (word ws 3) ∷ [] ≡ number at ∷ number peer.0 ∷ number conn.0 ∷ chosen circuit ∷ [] → AttributeMade
  attribute_means e =
      let x0 : word ws 0 ≡ at = cc in
      let x1 : word ws 1 ≡ peer.0 = cc in
      let x2 : word ws 2 ≡ conn.0 = cc in
      let x3 = chosen_is (word ws 3) circuit cc in
      rw (x0, x1, x2, x3)

  attribute_words : number (get_or ws 0 0) ∷ number (get_or (drop 1 ws) 0 0) ∷ number (get_or (drop 1 (drop 1 ws)) 0 0) ∷ chosenWord (get_or (drop 1 (drop 1 (drop 1 ws))) 0 0) ∷ []
      ≡ number at ∷ number peer.0 ∷ number conn.0 ∷ chosen circuit ∷ [] → AttributeMade
  attribute_words e = attribute_means (simp get_or-drop at e)

  attribute_made : values_from take-bytes false attribute_form ws ≡ number at ∷ number peer.0 ∷ number conn.0 ∷ chosen circuit ∷ [] → AttributeMade
  unfolding values_from value_in mark_of
  attribute_made e = attribute_words e

pub attribute_back : AttributeIsRead
attribute_back at peer conn circuit h0 h1 h2 =
    let q = words_read attribute_form (number at ∷ number peer.0 ∷ number conn.0 ∷ chosen circuit ∷ []) attribute_form_lem (attribute_fits at peer conn circuit h0 h1 h2) in
    let r = attribute_made (get (attribute_text at peer conn circuit)) q.0 at peer conn circuit q.2 in
    said_by_lem (attribute_text at peer conn circuit) 8 q.0 (omega arith) q.1 ∙ r

-- ---- the first line

settings_form_lem : is_form settings_form ≡ true
unfolding is_form is_form_from mark_of
settings_form_lem = refl

settings_fit : (s : Settings) → s.handshake ≤ max_u64 → s.upgrade ≤ max_u64 → s.exchange ≤ max_u64 → s.punch ≤ max_u64 → s.interval ≤ max_u64 → s.payload ≤ max_u64 → Fits settings_form (number s.handshake ∷ number s.upgrade ∷ number s.exchange ∷ number s.punch ∷ number s.interval ∷ number s.payload ∷ chosen s.private ∷ chosen s.upgrades ∷ [])
unfolding Fits FitsFrom mark_of InRange kind_of_value length_before
settings_fit s h0 h1 h2 h3 h4 h5 = ((refl, h0), ((refl, h1), ((refl, h2), ((refl, h3), ((refl, h4), ((refl, h5), (bit_fits s.private, (bit_fits s.upgrades, tt))))))))

module _ (take-bytes : ℕ → ℕ → List ℕ) (ws : List ℕ) (s : Settings) where
  settings_mean : number (word ws 0) ∷ number (word ws 1) ∷ number (word ws 2) ∷ number (word ws 3) ∷ number (word ws 4) ∷ number (word ws 5) ∷ chosenWord (word ws 6) ∷ chosenWord (word ws 7) ∷ [] ≡ number s.handshake ∷ number s.upgrade ∷ number s.exchange ∷ number s.punch ∷ number s.interval ∷ number s.payload ∷ chosen s.private ∷ chosen s.upgrades ∷ [] → Some (settings_in ws) ≡ Some s
  settings_mean e =
      let x0 : word ws 0 ≡ s.handshake = cc in
      let x1 : word ws 1 ≡ s.upgrade = cc in
      let x2 : word ws 2 ≡ s.exchange = cc in
      let x3 : word ws 3 ≡ s.punch = cc in
      let x4 : word ws 4 ≡ s.interval = cc in
      let x5 : word ws 5 ≡ s.payload = cc in
      let x6 = chosen_is (word ws 6) s.private cc in
      let x7 = chosen_is (word ws 7) s.upgrades cc in
      rw (x0, x1, x2, x3, x4, x5, x6, x7)

  settings_made : values_from take-bytes false settings_form ws ≡ number s.handshake ∷ number s.upgrade ∷ number s.exchange ∷ number s.punch ∷ number s.interval ∷ number s.payload ∷ chosen s.private ∷ chosen s.upgrades ∷ [] → Some (settings_in ws) ≡ Some s
  unfolding values_from value_in mark_of
  settings_made e = settings_mean (simp get_or-drop at e)

pub settings_back : SettingsAreRead
unfolding settings_of
settings_back s h0 h1 h2 h3 h4 h5 =
    let q = words_read settings_form (number s.handshake ∷ number s.upgrade ∷ number s.exchange ∷ number s.punch ∷ number s.interval ∷ number s.payload ∷ chosen s.private ∷ chosen s.upgrades ∷ []) settings_form_lem (settings_fit s h0 h1 h2 h3 h4 h5) in
    rw q.1 (settings_made (get (settings_text s)) q.0 s q.2)
