-- Where the recording of an instance's points ends.
use Rattle.layout.proofs.RecordedPoints.{record_none, record_past}

-- Where no point is left, and at the end of the body.
pub ruleset record_ends = (record_none, record_past)
