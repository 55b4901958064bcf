-- What the code's type stands for: the result of `event_bits` in document 01's terms.
use Rattle.std.specs.Prelude.{Result, Ok, Err}
use Rattle.refusals.specs.Refusals.{number}
use Rattle.refusals.specs.declared.Refusal.{Refusal}
use Rattle.event_fields.specs.Events as Events
use Rattle.event_fields.specs.declared.EventBits.{EventBits}

-- The result of `event_bits`. A refusal is at place 0.
abbrev pub to_spec_event_bits : Result EventBits Refusal → Events.EventBits
to_spec_event_bits (Ok bits) = Events.bits bits.count bits.lowest
to_spec_event_bits (Err refusal) = Events.refused (number refusal) 0
