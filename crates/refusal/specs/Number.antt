-- The number of each refusal (RULES.md, section 1.3).
use Rattle.std.specs.Prelude.{ℕ}
use Rattle.refusal.specs.declared.Refusal.{Refusal}
use Rattle.refusal.specs.declared.Refusal.TheVariants.{
  ReplyBufferTooShort,
  OfferInUse,
  HandshakeTooLate,
  LedgerFull,
  BrokenList,
  MessageTooLong,
  OutputTooShort,
  Malformed,
  NoType,
  WrongType,
  UnknownLine,
  NotStarted,
}

abbrev pub number_of : Refusal → ℕ
number_of ReplyBufferTooShort = 1
number_of OfferInUse = 2
number_of HandshakeTooLate = 3
number_of LedgerFull = 4
number_of BrokenList = 5
number_of MessageTooLong = 6
number_of OutputTooShort = 7
number_of Malformed = 8
number_of NoType = 9
number_of WrongType = 10
number_of UnknownLine = 11
number_of NotStarted = 12
