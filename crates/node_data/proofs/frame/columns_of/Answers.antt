use Rattle.std.proofs.Common.{◌≡◌, ◌∙◌, ap, sym, subst, suc, drop, ◌+◌, length, replicate, [], arith, add-one, drop_of_length-le}
use Rattle.scen_defs.specs.Program.{content, view_of}
use Rattle.scen_defs.proofs.NodeReads.{drop_read}
use Rattle.node_data.specs.Frames.{stage_lists, columns_from}
use Rattle.node_data.proofs.FrameLemmas.{finished, columns_begin, columns_more, columns_end}
use Rattle.node_data.proofs.frame.columns_of.Goals as goal

pub loop-number-init : goal.loop-number-init
loop-number-init c =
    let long : c.len.result ≡ length c.args.program.now.periods.items = omega (arith, c.len.ensures, c.args.program.now.periods.ok.0) in
    ap (finished c.args.program.now.columns.items 0 0) (c.in_ok-all.ensures ∙ ap (λ n. replicate n []) long)
    ∙ columns_begin (content c.args.program.now) 0 (length c.args.program.now.periods.items)

pub loop-number-preserved : goal.loop-number-preserved
loop-number-preserved c =
    let number = c.loop-number.number in
    let columns = c.args.program.now.columns.items in
    let column = c.index.result.now in
    let rest = drop (number + 1) columns in
    ap (λ n. finished rest n 0 (stage_lists c.add_column.new.all.items)) (add-one number)
    ∙ ap (finished rest (suc number) 0) c.in_ok-add_column.ensures
    ∙ sym (columns_more column rest number 0 (stage_lists c.loop-number.all.items))
    ∙ sym (ap (λ cs. finished cs number 0 (stage_lists c.loop-number.all.items)) (drop_read columns number column (omega (arith, c.len-2.ensures, c.args.program.now.columns.ok.0)) c.index.ensures))
    ∙ c.loop-number.invariant

pub returns : goal.returns
returns c = λ small.
    sym (columns_end c.loop-number.number 0 (stage_lists c.loop-number.all.items))
    ∙ subst (λ rest. finished rest c.loop-number.number 0 (stage_lists c.loop-number.all.items)
    ≡ columns_from (view_of (content c.args.program.now)) 0 (length c.args.program.now.periods.items))
    (drop_of_length-le c.args.program.now.columns.items (omega (arith, c.len-2.ensures, c.args.program.now.columns.ok.0))) c.loop-number.invariant
