-- The first cuts of a run are made of the data of their nodes, so a node's program that has those of its children has a least cost.
use Rattle.std.proofs.Common.{◌≡◌, ℕ, suc, ◌<◌, true, List, [], ◌∷◌, ◌++◌, map, get_or, slice_get, slice_index_or, Option, Some, None, Ok, refl, sym, ap, subst, ◌∙◌, arith}
use Rattle.std.specs.Option.{option_map, option_to_list}
use Rattle.std.specs.List.{Contains}
use Rattle.rationals.specs.Rational.{ℚ, zero_ℚ, ◌<ℚ◌}
use Rattle.rationals.specs.Sparse.{Ascending}
use Rattle.scen_defs.specs.Lists.{Each}
use Rattle.rationals.specs.Intervals.{InOrder}
use Rattle.scen_defs.specs.Program.{Program, View}
use Rattle.scen_defs.specs.Valid.{IsProgram, Lives}
use Rattle.scen_defs.specs.Values.{At, at}
use Rattle.scen_defs.specs.declared.program.NodeRow.{NodeRow}
use Rattle.scen_defs.specs.declared.report.Kind.{Kind}
use Rattle.scen_defs.proofs.SumLaws.{each-map}
use Rattle.rationals.proofs.WalkLaws.{ended}
use Rattle.scen_tree.specs.Trees.{Tree}
use Rattle.cut_defs.specs.Data.{Datum, RowsRise, SharesRise, IsDatum, share_of}
use Rattle.cut_defs.specs.declared.datum.Share.{Share}
use Rattle.cut_defs.specs.declared.kinds.CutKind.TheVariants.{Bound}
use Rattle.cut_defs.specs.Stored.{Source, Stored, StoredUses, source_of, uses_of, constant_of, form_of, IsMadeFrom}
use Rattle.cut_defs.specs.Stored.StoredUses.{No_stored, Use_stored}
use Rattle.cut_sums.specs.Tallies.{RowsAscend, UsesAscend}
use Rattle.cut_sums.specs.Walks.{made}
use Rattle.cut_sums.proofs.OuterLaws.{columns_rise}
use Rattle.cut_proof.specs.Conditions.{MayBeMade}
use Rattle.cut_proof.specs.Repairing.{snoc}
use Rattle.cut_proof.proofs.MadeFrom.{made_parts, made_from}
use Rattle.cut_pool.specs.Held.{Held}
use Rattle.cut_banks.specs.Banks.{pools_of}
use Rattle.cut_banks.specs.Pools.{cuts_of, cuts_read}
use Rattle.dual_assemble.specs.Ground.{quotients_from, uses_of_children, ground_source, ground_walk, AreOfChildren}
use Rattle.dual_assemble.proofs.Grounds.{may_be_ground}
use Rattle.edit_defs.specs.Data.{view_in}
use Rattle.cut_proof.specs.declared.child.ChildCuts.{ChildCuts}
use Rattle.node_lp.specs.declared.task.Task.{Task}
use Rattle.node_lp.specs.Problem.{held, PlacedCut, is_priced, taken_of, taken, problem_of, IsCut, IsProblem}
use Rattle.node_lp.specs.Answers.{LooseAnswer}
use Rattle.node_lp.proofs.Columns.{each_split}
use Rattle.node_data.specs.declared.versions.Version.{Version}
use Rattle.node_data.specs.Counts.{version_of}
use Rattle.node_data.specs.Frames.{Frame, frame_of, children_in}
use Rattle.pass_core.specs.declared.state.State.{State}
use Rattle.pass_core.specs.Made.{cuts_there}
use Rattle.pass_core.specs.Turns.{datum_in, IsFirstCut, IsTaskOf}
use Rattle.pass_core.proofs.Making.{children_after}
use Rattle.answer_laws.specs.Bounds.{StandsAmong}
use Rattle.answer_laws.proofs.Bounds.{never_loose}
use Rattle.answer_laws.proofs.Grounds.{parts, grounds_are_made}
use Rattle.progress_laws.proofs.Standing.{known_of, HasMember, HasFirstCuts}
use Rattle.progress_laws.proofs.Policies.{each_found, own_children, children_same}

-- ---- the cuts of the children
-- at the place of node m stands a Bound cut about it
pub record HasGroundAt (cuts : List (Option Stored)) (m : ℕ) : Type 0 where
  pub cut : Stored
  pub there : slice_index_or cuts m None ≡ Some cut
  pub node : (source_of cut).node ≡ m
  pub kind : (source_of cut).kind ≡ Bound

one_of_each : (v : View) (cuts : List (Option Stored)) (ns : List ℕ) → Each (HasGroundAt cuts) ns
    → AreOfChildren (map (share_of v) ns) (cuts_there cuts ns)
one_of_each v cuts [] h = tt
one_of_each v cuts (n ∷ ns) h = go (slice_index_or cuts n None) h.0.there (one_of_each v cuts ns h.1)
  where
    go : (o : Option Stored) → o ≡ Some h.0.cut → AreOfChildren (map (share_of v) ns) (cuts_there cuts ns)
        → AreOfChildren (share_of v n ∷ map (share_of v) ns) (option_to_list o ++ cuts_there cuts ns)
    go None e rest = absurd (cc)
    go (Some c) e rest =
        let same : c ≡ h.0.cut = cc in
        (ap (λ (x : Stored). (source_of x).node) same ∙ h.0.node, ap (λ (x : Stored). (source_of x).kind) same ∙ h.0.kind, rest)

pub each_there : (P : Stored → Type 0) (cuts : List (Option Stored)) (ns : List ℕ)
    → Each (λ m. (cut : Stored) → slice_index_or cuts m None ≡ Some cut → P cut) ns → Each P (cuts_there cuts ns)
each_there P cuts [] h = tt
each_there P cuts (n ∷ ns) h = go (slice_index_or cuts n None) h.0 (each_there P cuts ns h.1)
  where
    go : (o : Option Stored) → ((cut : Stored) → o ≡ Some cut → P cut) → Each P (cuts_there cuts ns)
        → Each P (option_to_list o ++ cuts_there cuts ns)
    go None f rest = rest
    go (Some c) f rest = (f c refl, rest)

-- ---- what a ground cut is made from, without the costs
pub record HasParts (d : Datum) : Type 0 where
  pub rows : RowsRise 0 d.rows
  pub forms : RowsAscend d.rows
  pub ends : Each (λ (r : NodeRow). InOrder r.low r.high) d.rows
  pub shares : SharesRise 0 d.shares
  pub above : Each (λ (s : Share). zero_ℚ <ℚ s.share) d.shares

-- a datum without columns
abbrev pub bare_datum : Datum → Datum
bare_datum d = record d { cost = []; bounds = [] }

pub is_bare : (d : Datum) → HasParts d → IsDatum (bare_datum d)
is_bare d h = record {
  cost = record { rises = tt; nonzero = tt };
  rows = h.rows;
  bounds = tt;
  shares = h.shares;
  own = tt;
  above = h.above;
  row_ends = h.ends;
  column_ends = tt;
}

ascend_more : (uses : StoredUses) (w : ℚ) (cut : Stored) → UsesAscend uses → Ascending 0 (form_of cut) → UsesAscend (snoc uses w cut)
ascend_more No_stored w cut h a = (a, tt)
ascend_more (Use_stored v c uses) w cut h a = (h.0, ascend_more uses w cut h.1 a)

pub all_ascend : (done : StoredUses) (ss : List Share) (cs : List Stored) → UsesAscend done → Each (λ c. Ascending 0 (form_of c)) cs
    → UsesAscend (uses_of_children done ss cs)
all_ascend done [] cs h a = h
all_ascend done (s ∷ ss) [] h a = h
all_ascend done (s ∷ ss) (c ∷ cs) h a = all_ascend (snoc done s.share c) ss cs (ascend_more done s.share c h a.0) a.1

-- a ground cut of the children's cuts, whose forms rise, is made from its datum
pub ground_is_made : (d : Datum) (total : ℚ) (dual : List At) (cuts : List Stored) (cut : Stored) → HasParts d → AreOfChildren d.shares cuts
    → Each (λ c. Ascending 0 (form_of c)) cuts → ground_walk d total dual cuts ≡ Ok (Some cut)
    → IsMadeFrom d (source_of cut) (uses_of cut) (constant_of cut) (form_of cut)
ground_is_made d total dual cuts cut h of forms e =
    let uses : StoredUses = uses_of_children No_stored d.shares cuts in
    let one = ended (quotients_from total (at dual d.node) [] d.rows) (λ y. made d (ground_source d y) uses) (Some cut) e in
    let may : MayBeMade (bare_datum d) (ground_source (bare_datum d) one.result) uses
    = may_be_ground (bare_datum d) total dual cuts one.result uses (is_bare d h) of one.first_is refl in
    let g : IsMadeFrom d (ground_source d one.result) uses (constant_of cut) (form_of cut)
    = made_from d (ground_source d one.result) uses cut (columns_rise d.rows uses h.forms (all_ascend No_stored d.shares cuts tt forms))
    may.on_rows may.weights one.next_is in
    let both : (source_of cut ≡ ground_source d one.result) × (uses_of cut ≡ uses)
    = made_parts d (ground_source d one.result) uses cut one.next_is in
    subst (λ (s : Source). IsMadeFrom d s (uses_of cut) (constant_of cut) (form_of cut)) (sym both.0)
    (subst (λ (us : StoredUses). IsMadeFrom d (ground_source d one.result) us (constant_of cut) (form_of cut)) (sym both.1) g)

-- ---- the cuts of a task
each_taken_of : (P : PlacedCut → Type 0) (k : ℕ) (cuts : List Stored) → Each P (taken_of true k cuts)
    → Each (λ (cut : Stored). P (record { child = k; cut = held cut })) cuts
each_taken_of P k [] h = tt
each_taken_of P k (c ∷ cs) h = (h.0, each_taken_of P k cs h.1)

-- the form of each rises
forms_of_child : (ss : List Share) (k : ℕ) (cs : List ChildCuts) → Each (IsCut true ss) (taken true k cs)
    → Each (λ (c : ChildCuts). Each (λ cut. Ascending 0 (form_of cut)) c.cuts.items) cs
forms_of_child ss k [] h = tt
forms_of_child ss k (c ∷ cs) h =
    let both : Each (IsCut true ss) (taken_of true k c.cuts.items) × Each (IsCut true ss) (taken true (suc k) cs)
    = each_split (IsCut true ss) (taken_of true k c.cuts.items) (taken true (suc k) cs) h in
    (each-map (λ cut q. q.form.rises) c.cuts.items (each_taken_of (IsCut true ss) k c.cuts.items both.0), forms_of_child ss (suc k) cs both.1)

form_rises : (t : Task) → IsProblem (problem_of t) → is_priced t.kind ≡ true → (cut : Stored) → StandsAmong t.children.items cut
    → Ascending 0 (form_of cut)
form_rises t fits priced cut a =
    each_found (λ (c : Stored). Ascending 0 (form_of c)) a.child.cuts.items cut
    (each_found (λ (c : ChildCuts). Each (λ cut. Ascending 0 (form_of cut)) c.cuts.items) t.children.items a.child
    (forms_of_child t.datum.shares 0 t.children.items
    (subst (λ b. Each (IsCut b t.datum.shares) (taken b 0 t.children.items)) priced fits.cuts)) a.stands) a.among

-- what the pool of a child has is a cut of the task
further : (x : ChildCuts) (cs : List ChildCuts) (cut : Stored) → StandsAmong cs cut → StandsAmong (x ∷ cs) cut
further x cs cut a = record { child = a.child; stands = (suc a.stands.0, omega (arith, a.stands.1), a.stands.2); among = a.among }

among_read : (pools : List Held) (ns : List ℕ) (cs : List ChildCuts) → map cuts_of cs ≡ cuts_read pools ns
    → Each (λ m. (pool : Held) → slice_get pools m ≡ Some pool → (cut : Stored) → Contains pool.cuts cut → StandsAmong cs cut) ns
among_read pools [] cs e = tt
among_read pools (n ∷ ns) cs e = (
  (λ pool there cut c. first pool cut c cs
      (e ∙ ap (λ o. option_to_list (option_map (λ (p : Held). (n, p.cuts)) o) ++ cuts_read pools ns) there)),
  others (slice_get pools n) (λ rest f. among_read pools ns rest f) cs e,
)
  where
    first : (pool : Held) (cut : Stored) → Contains pool.cuts cut → (cs : List ChildCuts)
        → map cuts_of cs ≡ (n, pool.cuts) ∷ cuts_read pools ns → StandsAmong cs cut
    first pool cut c [] e = absurd (cc (e))
    first pool cut c (x ∷ rest) e =
        let head : cuts_of x ≡ (n, pool.cuts) = cc (e) in
        let same : x.cuts.items ≡ pool.cuts = ap (λ (y : ℕ × List Stored). y.1) head in
        record { child = x; stands = (0, omega arith, refl); among = subst (λ (l : List Stored). Contains l cut) (sym same) c }

    others : (o : Option Held) → ((rest : List ChildCuts) → map cuts_of rest ≡ cuts_read pools ns
        → Each (λ m. (pool : Held) → slice_get pools m ≡ Some pool → (cut : Stored) → Contains pool.cuts cut → StandsAmong rest cut) ns)
        → (cs : List ChildCuts)
        → map cuts_of cs ≡ option_to_list (option_map (λ (p : Held). (n, p.cuts)) o) ++ cuts_read pools ns
        → Each (λ m. (pool : Held) → slice_get pools m ≡ Some pool → (cut : Stored) → Contains pool.cuts cut → StandsAmong cs cut) ns
    others None ih cs e = ih cs e
    others (Some p) ih [] e = absurd (cc (e))
    others (Some p) ih (x ∷ rest) e =
        let tail : map cuts_of rest ≡ cuts_read pools ns = cc (e) in
        each-map (λ m f pool there cut c. further x rest cut (f pool there cut c)) ns (ih rest tail)

-- ---- in a run
-- the parts of the datum of a task
pub parts_of : (t : Task) → IsProblem (problem_of t) → HasParts t.datum
parts_of t fits = record {
  rows = fits.rows_rise;
  forms = each-map (λ (r : NodeRow) h. h.entries.rises) t.datum.rows fits.rows;
  ends = each-map (λ (r : NodeRow) h. h.in_order) t.datum.rows fits.rows;
  shares = fits.shares_rise;
  above = fits.shares;
}

-- the shares of a node's datum are those of the children of its frame
pub shares_in : (kind : Kind) (p : Program) (n : ℕ) (version : Version) → IsProgram p → Lives p n
    → (datum_in kind p n version).shares ≡ map (share_of (view_in kind p)) (children_in (frame_of p) n)
shares_in kind p n version i l =
    ap (map (share_of (view_in kind p))) (children_same kind p n ∙ sym (own_children p i n l))

-- the first cut of each child stands at its place
pub ground_at : (kind : Kind) (p : Program) (tree : Tree) (versions : List Version) (dual : List At) (cuts : List (Option Stored)) (m : ℕ)
    → (cut : Stored) × ((slice_index_or cuts m None ≡ Some cut) × IsFirstCut kind p tree versions dual cuts m cut) → HasGroundAt cuts m
ground_at kind p tree versions dual cuts m (cut, (there, walk)) =
    let d : Datum = datum_in kind p m (version_of versions m) in
    let is = parts d (get_or tree.chances.totals m zero_ℚ) dual (cuts_there cuts (children_in (frame_of p) m)) cut walk in
    record {
      cut = cut;
      there = there;
      node = ap (λ (s : Source). s.node) is.1;
      kind = ap (λ (s : Source). s.kind) is.1;
    }

-- so it is with those of a live node
pub are_of_children : (kind : Kind) (p : Program) (tree : Tree) (versions : List Version) (dual : List At) (cuts : List (Option Stored)) (n : ℕ)
    → IsProgram p → Lives p n
    → ((m : ℕ) → n < m → Lives p m
    → (cut : Stored) × ((slice_index_or cuts m None ≡ Some cut) × IsFirstCut kind p tree versions dual cuts m cut))
    → AreOfChildren (datum_in kind p n (version_of versions n)).shares (cuts_there cuts (children_in (frame_of p) n))
are_of_children kind p tree versions dual cuts n i l there =
    subst (λ (ss : List Share). AreOfChildren ss (cuts_there cuts (children_in (frame_of p) n))) (sym (shares_in kind p n (version_of versions n) i l))
    (one_of_each (view_in kind p) cuts (children_in (frame_of p) n)
    (each-map {Q = HasGroundAt cuts} (λ m h. ground_at kind p tree versions dual cuts m (there m h.1 h.0)) (children_in (frame_of p) n)
    (children_after p i n l)))

-- a task of a run that isn't a Feasible one has a least cost, since a first cut of its node is made of cuts of the task
pub has_least : (p : Program) (tree : Tree) (s : State) (n : ℕ) (t : Task) → IsProgram p → Lives p n → s.frame ≡ frame_of p
    → HasFirstCuts p tree (known_of s) → IsTaskOf p s n t → IsProblem (problem_of t) → is_priced s.kind ≡ true → LooseAnswer t → ⊥
has_least p tree s n t i l frame first task fits priced loose =
    let f = first.are.there n l in
    let walk : ground_walk t.datum (get_or tree.chances.totals n zero_ℚ) first.dual (cuts_there first.cuts (children_in (frame_of p) n)) ≡ Ok (Some f.0)
    = ap (λ (d : Datum). ground_walk d (get_or tree.chances.totals n zero_ℚ) first.dual (cuts_there first.cuts (children_in (frame_of p) n))) task.datum ∙ f.1.1 in
    never_loose.priced t (source_of f.0) (uses_of f.0) (constant_of f.0) (form_of f.0) fits is_costly
    (grounds_are_made.bound t (get_or tree.chances.totals n zero_ℚ) first.dual (cuts_there first.cuts (children_in (frame_of p) n)) f.0 fits walk
    (ground_is_made t.datum (get_or tree.chances.totals n zero_ℚ) first.dual (cuts_there first.cuts (children_in (frame_of p) n)) f.0 (parts_of t fits)
    of (each-map (λ cut a. form_rises t fits is_costly cut a) (cuts_there first.cuts (children_in (frame_of p) n)) among) walk) among) loose
  where
    is_costly : is_priced t.kind ≡ true
    is_costly = ap is_priced task.kind ∙ priced

    of : AreOfChildren t.datum.shares (cuts_there first.cuts (children_in (frame_of p) n))
    of = subst (λ (d : Datum). AreOfChildren d.shares (cuts_there first.cuts (children_in (frame_of p) n))) (sym task.datum)
        (are_of_children s.kind p tree s.versions first.dual first.cuts n i l (λ m less lives. first.are.there m lives))

    read : map cuts_of t.children.items ≡ cuts_read (pools_of s.kind s.banks) (children_in (frame_of p) n)
    read = task.cuts ∙ ap (λ (g : Frame). cuts_read (pools_of s.kind s.banks) (children_in g n)) frame

    one : (m : ℕ) → n < m
        → ((pool : Held) → slice_get (pools_of s.kind s.banks) m ≡ Some pool → (cut : Stored) → Contains pool.cuts cut → StandsAmong t.children.items cut)
        → (cut : Stored) → slice_index_or first.cuts m None ≡ Some cut → StandsAmong t.children.items cut
    one m less stands cut e =
        let h : HasMember (pools_of s.kind s.banks) m (λ c. c ≡ cut) = first.placed m cut e (omega (arith, less)) in
        subst (StandsAmong t.children.items) h.holds (stands h.pool h.there h.cut h.member)

    among : Each (StandsAmong t.children.items) (cuts_there first.cuts (children_in (frame_of p) n))
    among = each_there (StandsAmong t.children.items) first.cuts (children_in (frame_of p) n)
        (both (children_in (frame_of p) n) (children_after p i n l)
        (among_read (pools_of s.kind s.banks) (children_in (frame_of p) n) t.children.items read))
      where
        both : (ns : List ℕ) → Each (λ c. Lives p c × (n < c)) ns
            → Each (λ m. (pool : Held) → slice_get (pools_of s.kind s.banks) m ≡ Some pool → (cut : Stored) → Contains pool.cuts cut
            → StandsAmong t.children.items cut) ns
            → Each (λ m. (cut : Stored) → slice_index_or first.cuts m None ≡ Some cut → StandsAmong t.children.items cut) ns
        both [] a b = tt
        both (m ∷ ns) a b = (one m a.0.1 b.0, both ns a.1 b.1)
