use Rattle.std.proofs.Common.{◌≡◌, ◌∙◌, Some, None, Option, IsSome, IfSome, map, refl, sym, ap, subst}
use Rattle.scen_defs.specs.Program.{content}
use Rattle.cut_defs.specs.Data.{Datum, IsDatum}
use Rattle.node_data.specs.Frames.{Frame, children_in, frame_of}
use Rattle.node_data.specs.NodeData.{share_in, node_datum}
use Rattle.node_data.specs.Counts.{version_of}
use Rattle.pass_core.specs.Turns.{datum_in}
use Rattle.pass_core.specs.Made.{cuts_there}
use Rattle.pass_core.proofs.TaskFits.{program_book, is_in}
use Rattle.pass_core.proofs.Making.{ground_made}
use Rattle.pass_core.proofs.FirstCuts.{first_made}
use Rattle.pass_core.proofs.state.State.node_cut.Goals as goal

pub returns-clause-ground : goal.returns-clause-ground
returns-clause-ground c = λ b priced walk frame right lives h.
    let p = content c.args.program.now in
    let i = c.args.program.now.keeps in
    let s = c.args.self.now in
    let v = c.of-version.result in
    let tree = c.args.tree.now in
    let found = c.in_ok-datum.ensures.of_book (program_book c.args.kind p) (is_in c.args.kind p tree c.args.node v.rows v.costs i walk lives) frame in
    let same : Some c.in-Some.datum ≡ Some (datum_in c.args.kind p c.args.node v) = sym c.in-Some.is ∙ found in
    let here : c.in-Some.datum ≡ datum_in c.args.kind p c.args.node v = cc in
    let stated : c.in-Some.datum ≡ datum_in c.args.kind p c.args.node (version_of s.versions c.args.node) = here ∙ ap (datum_in c.args.kind p c.args.node) c.of-version.ensures in
    let by_frame : c.in-Some.datum ≡ node_datum c.args.kind p s.frame tree c.args.node v.rows v.costs =
    subst (λ (o : Option Datum). IfSome o (λ d. d ≡ node_datum c.args.kind p s.frame tree c.args.node v.rows v.costs)) c.in-Some.is c.in_ok-datum.ensures.datum in
    let shares : c.in-Some.datum.shares ≡ map (share_in tree) (children_in (frame_of p) c.args.node) =
    ap (λ (d : Datum). d.shares) by_frame ∙ ap (λ (f : Frame). map (share_in tree) (children_in f c.args.node)) frame in
    let is : IsDatum c.in-Some.datum =
    subst IsDatum (sym by_frame) (c.in_ok-datum.ensures.found.0 (subst (λ (o : Option Datum). IsSome o) (sym c.in-Some.is) refl)).1 in
    let below : c.deref.result.now ≡ cuts_there c.args.cuts.now (children_in (frame_of p) c.args.node) =
    c.deref.ensures.value ∙ c.in_ok-below.ensures ∙ ap (cuts_there c.args.cuts.now) (c.children.ensures ∙ ap (λ (f : Frame). children_in f c.args.node) frame) in
    ground_made c.args.kind p tree s c.args.node b c.args.cuts.now c.in-Some.datum c.total.result c.args.dual.now c.deref.result.now c.ground_cut.result
    priced i right lives h stated is shares below c.ground_cut.ensures.walk c.ground_cut.ensures.made

-- each live node has a datum
pub returns-in_default-clause-first : goal.returns-in_default-clause-first
returns-in_default-clause-first c = λ walk frame lives.
    let p = content c.args.program.now in
    let i = c.args.program.now.keeps in
    let v = c.of-version.result in
    let tree = c.args.tree.now in
    let found = c.in_ok-datum.ensures.of_book (program_book c.args.kind p) (is_in c.args.kind p tree c.args.node v.rows v.costs i walk lives)
    frame in
    let no : None ≡ Some (datum_in c.args.kind p c.args.node v) = sym c.in_default.is ∙ found in absurd (cc)

pub returns-clause-first : goal.returns-clause-first
returns-clause-first c = λ walk frame lives.
    let p = content c.args.program.now in
    let i = c.args.program.now.keeps in
    let s = c.args.self.now in
    let v = c.of-version.result in
    let n = c.args.node in
    let kind = c.args.kind in
    let tree = c.args.tree.now in
    let found = c.in_ok-datum.ensures.of_book (program_book kind p) (is_in kind p tree n v.rows v.costs i walk lives) frame in
    let same : Some c.in-Some.datum ≡ Some (datum_in kind p n v) = sym c.in-Some.is ∙ found in
    let here : c.in-Some.datum ≡ datum_in kind p n v = cc in
    let stated : c.in-Some.datum ≡ datum_in kind p n (version_of s.versions n) = here ∙ ap (datum_in kind p n) c.of-version.ensures in
    let below : c.deref.result.now ≡ cuts_there c.args.cuts.now (children_in (frame_of p) n) =
    c.deref.ensures.value ∙ c.in_ok-below.ensures
    ∙ ap (cuts_there c.args.cuts.now) (c.children.ensures ∙ ap (λ (f : Frame). children_in f n) frame) in
    first_made kind p tree s.versions c.args.dual.now n c.args.cuts.now c.in-Some.datum c.total.result c.deref.result.now
    c.ground_cut.result stated c.total.ensures below c.ground_cut.ensures.walk
