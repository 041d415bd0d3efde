use Rattle.std.proofs.Common.{◌≡◌, ◌<◌, ◌≤◌, None, [], length, sym, ap, subst, ◌∙◌, arith}
use Rattle.scen_defs.specs.Program.{content}
use Rattle.scen_defs.proofs.Contents.{nodes_length}
use Rattle.scen_tree.specs.Trees.{Tree}
use Rattle.node_data.specs.Frames.{frame_of}
use Rattle.pass_table.specs.declared.table.Table.{Table}
use Rattle.pass_table.specs.Machine.{Machine}
use Rattle.pass_table.specs.Marks.{nothing}
use Rattle.pass_core.specs.declared.state.State.{State}
use Rattle.pass_core.specs.Tabled.{IsTabledBy}
use Rattle.nested_method.specs.Stands.{WorksOn, settled_in}
use Rattle.nested_method.specs.Batches.{Batch}
use Rattle.nested_method.proofs.StandLemmas.{not_ripe}
use Rattle.nested_method.proofs.Batches.{batch_starts, batch_goes, batch_works}
use Rattle.nested_method.proofs.method.Working.work_beside.Goals as goal

pub returns-clause-stays : goal.returns-clause-stays
returns-clause-stays g c =
    let p = content c.args.program.now in
    let i = c.args.program.now.keeps in
    let tree : Tree = c.args.self.now.tree in
    let s : State = c.args.self.now.state in
    let mid : State = c.get_ready.new.self in
    let few : length p.nodes < nothing = omega (arith, c.if-len-ge-MOST.false, c.len.ensures, nodes_length c.args.program.now.nodes.items) in
    let left : settled_in s ≡ None = not_ripe c.args.work _ _ (sym c.is_ripe.ensures ∙ c.if-is_ripe.false) in
    let enough : c.wanted-wanted.result ≤ length mid.table.flights.items =
    subst (λ (t : Table). c.wanted-wanted.result ≤ length t.flights.items) (sym (ap (λ (x : State). x.table) c.in_ok-get_ready.ensures.others)) c.wanted-wanted.ensures in
    let done : (start : Machine) → s.frame ≡ frame_of p → IsTabledBy p s start → Batch p tree start s c.end_all.new.self.state [] = λ start frame t.
    let b = batch_starts p tree start s mid i few frame t left (c.in_ok-get_ready.ensures.explained p tree) (c.in_ok-get_ready.ensures.points p)
    c.in_ok-get_ready.ensures.ready c.in_ok-get_ready.ensures.begun c.in_ok-get_ready.ensures.others in
    subst (λ (x : Tree). Batch p x start s c.end_all.new.self.state []) c.begin_all.ensures.tree
    (c.in_ok-did.ensures.ended start s (subst (λ (x : Tree). Batch p x start s c.begin_all.new.self.state c.in_ok-jobs.jobs.items)
    (sym c.begin_all.ensures.tree) (c.in_ok-jobs.ensures.begun start s enough b))) in
    λ budget w.
    let t = w.tabled i few in
    subst (λ (x : Tree). WorksOn p budget (record { state = c.end_all.new.self.state; tree = x }))
    (sym (c.in_ok-did.ensures.tree ∙ c.begin_all.ensures.tree)) (batch_works p tree budget t.0 s c.end_all.new.self.state (done t.0 w.frame t.1) w)

pub returns-clause-steps : goal.returns-clause-steps
returns-clause-steps g c =
    let p = content c.args.program.now in
    let i = c.args.program.now.keeps in
    let tree : Tree = c.args.self.now.tree in
    let s : State = c.args.self.now.state in
    let mid : State = c.get_ready.new.self in
    let few : length p.nodes < nothing = omega (arith, c.if-len-ge-MOST.false, c.len.ensures, nodes_length c.args.program.now.nodes.items) in
    let left : settled_in s ≡ None = not_ripe c.args.work _ _ (sym c.is_ripe.ensures ∙ c.if-is_ripe.false) in
    let enough : c.wanted-wanted.result ≤ length mid.table.flights.items =
    subst (λ (t : Table). c.wanted-wanted.result ≤ length t.flights.items) (sym (ap (λ (x : State). x.table) c.in_ok-get_ready.ensures.others)) c.wanted-wanted.ensures in
    let done : (start : Machine) → s.frame ≡ frame_of p → IsTabledBy p s start → Batch p tree start s c.end_all.new.self.state [] = λ start frame t.
    let b = batch_starts p tree start s mid i few frame t left (c.in_ok-get_ready.ensures.explained p tree) (c.in_ok-get_ready.ensures.points p)
    c.in_ok-get_ready.ensures.ready c.in_ok-get_ready.ensures.begun c.in_ok-get_ready.ensures.others in
    subst (λ (x : Tree). Batch p x start s c.end_all.new.self.state []) c.begin_all.ensures.tree
    (c.in_ok-did.ensures.ended start s (subst (λ (x : Tree). Batch p x start s c.begin_all.new.self.state c.in_ok-jobs.jobs.items)
    (sym c.begin_all.ensures.tree) (c.in_ok-jobs.ensures.begun start s enough b))) in
    λ m frame h.
    let b = done h.machine frame h.tabled in (batch_goes p tree m s c.end_all.new.self.state h b, b.frame)

pub returns-clause-solves : goal.returns-clause-solves
returns-clause-solves g c =
    let p = content c.args.program.now in
    let i = c.args.program.now.keeps in
    let tree : Tree = c.args.self.now.tree in
    let s : State = c.args.self.now.state in
    let mid : State = c.get_ready.new.self in
    let few : length p.nodes < nothing = omega (arith, c.if-len-ge-MOST.false, c.len.ensures, nodes_length c.args.program.now.nodes.items) in
    let left : settled_in s ≡ None = not_ripe c.args.work _ _ (sym c.is_ripe.ensures ∙ c.if-is_ripe.false) in
    let enough : c.wanted-wanted.result ≤ length mid.table.flights.items =
    subst (λ (t : Table). c.wanted-wanted.result ≤ length t.flights.items) (sym (ap (λ (x : State). x.table) c.in_ok-get_ready.ensures.others)) c.wanted-wanted.ensures in
    let done : (start : Machine) → s.frame ≡ frame_of p → IsTabledBy p s start → Batch p tree start s c.end_all.new.self.state [] = λ start frame t.
    let b = batch_starts p tree start s mid i few frame t left (c.in_ok-get_ready.ensures.explained p tree) (c.in_ok-get_ready.ensures.points p)
    c.in_ok-get_ready.ensures.ready c.in_ok-get_ready.ensures.begun c.in_ok-get_ready.ensures.others in
    subst (λ (x : Tree). Batch p x start s c.end_all.new.self.state []) c.begin_all.ensures.tree
    (c.in_ok-did.ensures.ended start s (subst (λ (x : Tree). Batch p x start s c.begin_all.new.self.state c.in_ok-jobs.jobs.items)
    (sym c.begin_all.ensures.tree) (c.in_ok-jobs.ensures.begun start s enough b))) in
    λ budget before w old.
    let t = w.tabled i few in ((done t.0 w.frame t.1).works budget w).solves before old

pub returns-clause-made : goal.returns-clause-made
returns-clause-made g c =
    let p = content c.args.program.now in
    let i = c.args.program.now.keeps in
    let tree : Tree = c.args.self.now.tree in
    let s : State = c.args.self.now.state in
    let mid : State = c.get_ready.new.self in
    let few : length p.nodes < nothing = omega (arith, c.if-len-ge-MOST.false, c.len.ensures, nodes_length c.args.program.now.nodes.items) in
    let left : settled_in s ≡ None = not_ripe c.args.work _ _ (sym c.is_ripe.ensures ∙ c.if-is_ripe.false) in
    let enough : c.wanted-wanted.result ≤ length mid.table.flights.items =
    subst (λ (t : Table). c.wanted-wanted.result ≤ length t.flights.items) (sym (ap (λ (x : State). x.table) c.in_ok-get_ready.ensures.others)) c.wanted-wanted.ensures in
    let done : (start : Machine) → s.frame ≡ frame_of p → IsTabledBy p s start → Batch p tree start s c.end_all.new.self.state [] = λ start frame t.
    let b = batch_starts p tree start s mid i few frame t left (c.in_ok-get_ready.ensures.explained p tree) (c.in_ok-get_ready.ensures.points p)
    c.in_ok-get_ready.ensures.ready c.in_ok-get_ready.ensures.begun c.in_ok-get_ready.ensures.others in
    subst (λ (x : Tree). Batch p x start s c.end_all.new.self.state []) c.begin_all.ensures.tree
    (c.in_ok-did.ensures.ended start s (subst (λ (x : Tree). Batch p x start s c.begin_all.new.self.state c.in_ok-jobs.jobs.items)
    (sym c.begin_all.ensures.tree) (c.in_ok-jobs.ensures.begun start s enough b))) in
    λ budget first edits rest came w h.
    let t = w.tabled i few in ((done t.0 w.frame t.1).works budget w).made first edits rest came h
