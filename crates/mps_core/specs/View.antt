-- The reader's tables as definitions see them, and what its steps give.
use Rattle.std.specs.Prelude.{Result}
use Rattle.refusals.specs.declared.cause.Cause.{Cause}
use Rattle.refusals.specs.declared.cause.Refusal.{Refusal}
use Rattle.refusals.specs.declared.cause.ReadFail.{ReadFail}
use Rattle.core_defs.specs.Filed.{Filed}
use Rattle.reader_defs.specs.declared.stop.Stop.{Stop}
use Rattle.reader_defs.specs.Stops.{Gives, ReadsAs}
use Rattle.mps_core.specs.declared.draft.Draft.{Draft}

abbrev pub filed : Draft → Filed
filed draft = record {
  section = draft.section;
  has_columns = draft.has_columns;
  free = draft.free;
  rows = draft.rows;
  kinds = draft.kinds.items;
  names = draft.names;
  parts = draft.parts.items;
  costs = draft.costs;
  terms = draft.terms;
  entries = draft.entries;
  rhs_set = draft.rhs_set;
  rhs = draft.rhs.items;
  free_rhs = draft.free_rhs.items;
  range_set = draft.range_set;
  ranges = draft.ranges.items;
  bound_set = draft.bound_set;
  bounds = draft.bounds.items;
}

-- The draft is now what the definition gives, or the cause is the definition's, unless memory ran out.
abbrev pub Files : Draft → Result (Unit {0}) Stop → Result Filed Cause → Type 0
Files new = Gives (λ done. filed new)

-- The draft is now what the definition gives for a text, or the text is refused at that line with that cause, unless memory ran out.
abbrev pub FilesLines : Draft → Result (Unit {0}) ReadFail → Result Filed Refusal → Type 0
FilesLines new = ReadsAs (λ done. filed new)
