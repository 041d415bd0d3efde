-- The words differ, so that each has the code of its row.
use Rattle.std.proofs.Common.{◌∙◌, ap, subst, sym, ℕ, Option}
use Rattle.std.specs.List.{Contains}
use Rattle.std.specs.Option.{IfSome}
use Rattle.smps_words.specs.Words.{code_of}
use Rattle.smps_words.specs.WordRows.{rows}
use Rattle.smps_words.proofs.WordLemmas.{own_code, found_inside}
use Rattle.smps_words.proofs.words.Words.find.Goals as goal

pub returns-clause-own : goal.returns-clause-own
returns-clause-own g c row inside same =
    c.code_of.ensures ∙ ap (code_of (rows c.args.self.now)) (sym same) ∙ own_code g.row.N c.args.self.now.words.now c.args.self.now.codes row c.args.self.now.is_table inside

pub returns-clause-found : goal.returns-clause-found
returns-clause-found g c =
    subst (λ (found : Option ℕ). IfSome found (λ code. Contains (rows c.args.self.now) (record { word = c.args.word.now; code = code }))) (sym c.code_of.ensures)
    (found_inside (rows c.args.self.now) c.args.word.now)
