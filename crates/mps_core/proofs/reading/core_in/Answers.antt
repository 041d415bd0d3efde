-- What is filed of a whole text gives the core that the text means.
use Rattle.std.proofs.Common.{Ok}
use Rattle.std.proofs.lemmas.Result.{err_from_is_err_and}
use Rattle.core_defs.proofs.Texts.{reading_as}
use Rattle.mps_core.specs.View.{filed}
use Rattle.mps_core.proofs.ReadLemmas.{whole, refused_text}
use Rattle.mps_core.proofs.reading.core_in.Goals as goal

pub core_of-requires : goal.core_of-requires
core_of-requires c = whole c.args.text.now (filed c.file_lines.new.draft) c.in_ok-file_lines.ensures

pub returns-in-Ok-clause-means : goal.returns-in-Ok-clause-means
returns-in-Ok-clause-means c =
    (reading_as c.args.text.now (Ok (filed c.file_lines.new.draft)) c.in_ok-file_lines.ensures).means c.in-Ok.core c.in-Ok.ensures

pub returns-in-Ok-clause-faults : goal.returns-in-Ok-clause-faults
returns-in-Ok-clause-faults c = (reading_as c.args.text.now (Ok (filed c.file_lines.new.draft)) c.in_ok-file_lines.ensures).file

pub returns-in_err-file_lines-clause-faults : goal.returns-in_err-file_lines-clause-faults
returns-in_err-file_lines-clause-faults c =
    let p = err_from_is_err_and c.from_residual.result c.from_residual.ensures.1 in
    rw (p.1, p.2) (refused_text c.args.text.now c.file_lines.new.draft c.in_err-file_lines.field-0.0 c.in_err-file_lines.ensures)
