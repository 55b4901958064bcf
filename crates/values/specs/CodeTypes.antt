-- What the code's types stand for: the results of the public calls in document 01's terms.
use Rattle.std.specs.Prelude.{not, ℤ, nat_abs, Result, Ok, Err}
use Rattle.std.specs.Float.{binary32, binary64}
use Rattle.std.specs.Int.Signed.{non_neg}
use Rattle.refusals.specs.Refusals.{number}
use Rattle.refusals.specs.declared.Refusal.{Refusal}
use Rattle.values.specs.Classes as Classes
use Rattle.values.specs.Decoding as Decoding
use Rattle.values.specs.Unscaled as Unscaled
use Rattle.values.specs.declared.Value.{Value}
use Rattle.values.specs.declared.Class.{Class}
use Rattle.values.specs.declared.Unclassified.{Unclassified}
use Rattle.values.specs.declared.Integer.{Integer}

-- The value in a result of `decode`.
abbrev pub to_spec_value : Value → Decoding.Decoded
to_spec_value (Value.Signed z) = Decoding.signed z
to_spec_value (Value.Unsigned n) = Decoding.unsigned n
to_spec_value (Value.Float x) = Decoding.float binary32 x
to_spec_value (Value.Double x) = Decoding.float binary64 x
to_spec_value Value.Unimplemented = Decoding.unimplemented
to_spec_value Value.OutOfRange = Decoding.out_of_range

-- The result of `decode`.
abbrev pub to_spec_decoded : Result Value Refusal → Decoding.Decoded
to_spec_decoded (Ok value) = to_spec_value value
to_spec_decoded (Err refusal) = Decoding.refused (number refusal) 0

-- The class in a result of `classify`.
abbrev pub to_spec_class : Class → Classes.Class
to_spec_class Class.Value = Classes.value
to_spec_class Class.Unimplemented = Classes.unimplemented
to_spec_class Class.OutOfRange = Classes.out_of_range

-- The result of `classify`.
abbrev pub to_spec_classified : Result Class Unclassified → Classes.Classified
to_spec_classified (Ok c) = Classes.of_class (to_spec_class c)
to_spec_classified (Err Unclassified.TooWide) = Classes.too_wide
to_spec_classified (Err Unclassified.UnknownType) = Classes.unknown_type

-- An integer by its sign and magnitude.
abbrev pub to_code_integer : ℤ → Integer
to_code_integer z = record { negative = not (non_neg z); magnitude = nat_abs z }

-- The result of `unscaled_value`. It refuses if there is no value, or if the type may carry no scale factor.
abbrev pub to_code_unscaled : Unscaled.Unscaled → Result Integer Refusal
to_code_unscaled (Unscaled.number z) = Ok (to_code_integer z)
to_code_unscaled Unscaled.no_value = Err Refusal.NoValue
to_code_unscaled Unscaled.not_scalable = Err Refusal.NotScalable
