-- What reading a text gives, by the laws of core files.
use Rattle.std.proofs.Common.{◌≡◌, ◌∙◌, ap, ℕ, List, Result, Ok, Err, length, sym}
use Rattle.std.proofs.lemmas.List.{length-map}
use Rattle.smps_words.specs.Line.{reading_of}
use Rattle.refusals.specs.declared.cause.ReadFail.{ReadFail}
use Rattle.refusals.specs.declared.cause.ReadFail.TheVariants as fail
use Rattle.core_defs.specs.declared.parts.ColumnDef.{ColumnDef}
use Rattle.core_defs.specs.declared.program.Core.{Core}
use Rattle.core_defs.specs.Fault.{IsReadOrRefused}
use Rattle.core_defs.specs.Filed.{Filed, closed}
use Rattle.core_defs.specs.Finished.{column_defs}
use Rattle.core_defs.specs.Laws.{IsFiledCore}
use Rattle.core_defs.specs.Step.{filed_text}
use Rattle.core_defs.proofs.Texts.{reading_as}
use Rattle.mps_core.specs.declared.draft.Draft.{Draft}
use Rattle.mps_core.specs.View.{FilesLines}
use Rattle.mps_core.specs.Whole.{IsWhole}
use Rattle.mps_core.proofs.WholeLemmas.{column_count}

-- what is filed of a whole text
pub whole : (text : List ℕ) (f : Filed) → filed_text text ≡ Ok f → IsWhole f
whole text f is =
    let core : IsFiledCore (reading_of 0 text).lines f = reading_as text (Ok f) is in
    record {
      some_free = core.some_free;
      few_rows = core.few_rows;
      keeps = core.keeps;
      few_columns = core.few_columns;
      all_parts = sym (column_count f 0 (closed f).parts)
          ∙ sym (length-map (column_defs f 0 (closed f).parts) (λ (column : ColumnDef). column.name)) ∙ ap length core.named;
      named = core.named;
    }

abbrev not_filed : ReadFail → Result (Unit {0}) ReadFail
not_filed e = Err e

abbrev no_core : ReadFail → Result Core ReadFail
no_core e = Err e

-- the line that is refused is the first at fault
pub refused_text : (text : List ℕ) (d : Draft) (e : ReadFail) → FilesLines d (not_filed e) (filed_text text)
    → IsReadOrRefused text (no_core e)
refused_text text d fail.Memory given = tt
refused_text text d (fail.Refused refusal) given = reading_as text (Err refusal) given
