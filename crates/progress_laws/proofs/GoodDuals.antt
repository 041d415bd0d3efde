-- A dual that is good for a program makes a first cut at each of its nodes.
use Rattle.std.proofs.Common.{◌≡◌, ℕ, zero, suc, ◌+◌, ◌<◌, ◌≤◌, Bool, true, false, List, [], ◌∷◌, ◌++◌, map, length, get_or, slice_index_or, Option, Some, None, Result, Ok, refl, sym, ap, ap₂, subst, ◌∙◌, arith}
use Rattle.std.specs.Option.{option_to_list}
use Rattle.std.proofs.lemmas.Bool.{eq-eqb, ne_eqb}
use Rattle.std.proofs.lemmas.List.{append-nil}
use Rattle.rationals.specs.declared.Op.TheVariants.{Div}
use Rattle.rationals.specs.Rational.{ℚ, zero_ℚ, ◌+ℚ◌, ◌*ℚ◌, ◌-ℚ◌, ◌/ℚ◌, zero_add_ℚ, add_zero_ℚ}
use Rattle.rationals.specs.Sums.{sum_ℚ}
use Rattle.rationals.specs.Sparse.{Entry, Ascending, coefficient, value_if}
use Rattle.rationals.specs.Forms.{EndsBelow, is_zero, put, put_unless}
use Rattle.rationals.specs.Passes.{Operation, div_walk, then_walk}
use Rattle.rationals.proofs.WalkLaws.{walk_value, ended}
use Rattle.scen_defs.specs.Lists.{Each, NumbersRise}
use Rattle.scen_defs.specs.Ends.{IsGoodAt, worth}
use Rattle.scen_defs.specs.Program.{Program, View, IsTree, IsLive, total, view_of, is_live}
use Rattle.scen_defs.specs.Flat.{IsGood, share, children}
use Rattle.scen_defs.specs.Valid.{IsProgram, Lives}
use Rattle.scen_defs.specs.Values.{At, at}
use Rattle.scen_defs.specs.declared.program.NodeRow.{NodeRow}
use Rattle.scen_defs.specs.declared.report.Kind.{Kind}
use Rattle.scen_defs.specs.declared.report.Kind.TheVariants as run_kind
use Rattle.scen_defs.proofs.SumLaws.{each-map, each-both}
use Rattle.scen_defs.proofs.Subtrees.{child-is}
use Rattle.scen_defs.proofs.Valid.{once-passes}
use Rattle.scen_tree.specs.Trees.{Tree, tree_walk}
use Rattle.cut_defs.specs.Cuts.{node_of, slope, slopes, IsMade, IsGround, AreGround}
use Rattle.cut_defs.specs.Cuts.Cut.{Cut_of}
use Rattle.cut_defs.specs.Data.{Datum, RowsRise, bounds_of, share_of}
use Rattle.cut_defs.specs.declared.datum.ColumnBounds.{ColumnBounds}
use Rattle.cut_defs.specs.declared.datum.Share.{Share}
use Rattle.cut_defs.specs.declared.kinds.CutKind.TheVariants.{Bound}
use Rattle.cut_defs.specs.Stored.{Source, Stored, StoredUses, source_of, uses_of, constant_of, form_of, form_sum, constant_sum, slope_of, reduced_of, IsEarlier, IsMadeFrom}
use Rattle.cut_defs.specs.Stored.Stored.{Stored_of}
use Rattle.cut_defs.specs.Stored.StoredUses.{No_stored, Use_stored}
use Rattle.cut_defs.proofs.CutLaws.{each-child}
use Rattle.cut_defs.proofs.Grounds.{ground_cuts_are_made}
use Rattle.cut_defs.proofs.Present.{bare, bares, each_mapped}
use Rattle.cut_sums.specs.Walks.{all_columns, earlier_walk, priced_from, form_from, constant_walk, cut_if, made}
use Rattle.cut_sums.proofs.FormEnds.{coefficient_append, coefficient_put, form_is}
use Rattle.cut_sums.proofs.OuterLaws.{columns_rise}
use Rattle.cut_proof.specs.Conditions.{MayBeMade}
use Rattle.cut_proof.specs.Repairing.{snoc}
use Rattle.cut_proof.proofs.MadeFrom.{made_parts}
use Rattle.cut_proof.proofs.NotGood.{nothing_is_made}
use Rattle.dual_assemble.specs.Ground.{quotients_from, uses_of_children, ground_source, ground_walk, AreOfChildren}
use Rattle.dual_assemble.proofs.Grounds.{may_be_ground}
use Rattle.edit_defs.specs.Data.{view_in}
use Rattle.edit_defs.proofs.Lists.{passes-within}
use Rattle.node_data.specs.declared.versions.Version.{Version}
use Rattle.node_data.specs.Counts.{version_of}
use Rattle.node_data.specs.Frames.{frame_of, children_in}
use Rattle.pass_core.specs.Made.{cuts_there}
use Rattle.pass_core.specs.Turns.{datum_in, IsFirstCut}
use Rattle.pass_core.proofs.Making.{children_after}
use Rattle.joined_laws.proofs.Places.{tree_in}
use Rattle.joined_laws.proofs.Totals.{tree_total}
use Rattle.progress_laws.proofs.Policies.{own_children, children_same}
use Rattle.progress_laws.proofs.FirstCutsMade.{HasParts, bare_datum, is_bare, all_ascend, are_of_children, each_there, ground_is_made}

-- ---- numbers by row
weaker : (n m : ℕ) (rs : List NodeRow) → m ≤ n → RowsRise n rs → RowsRise m rs
weaker n m [] h a = tt
weaker n m (r ∷ rs) h a = (omega (arith, h, a.0), a.1)

put_other : (f : List Entry) (c j : ℕ) (q : ℚ) → (c ≡ j → ⊥) → coefficient (f ++ put c q []) j ≡ coefficient f j
put_other f c j q h = coefficient_append f (put c q []) j
    ∙ ap (λ v. coefficient f j +ℚ v) (coefficient_put c q j ∙ ap (λ b. value_if b q) (ne_eqb c j h)) ∙ add_zero_ℚ (coefficient f j)

put_here : (f : List Entry) (c : ℕ) (q : ℚ) → coefficient f c ≡ zero_ℚ → coefficient (f ++ put c q []) c ≡ q
put_here f c q z = coefficient_append f (put c q []) c
    ∙ ap₂ ◌+ℚ◌ z (coefficient_put c q c ∙ ap (λ b. value_if b q) (eq-eqb c c refl)) ∙ zero_add_ℚ q

module _ (over : ℚ) (y : ℕ → ℚ) where
  kept : (n j : ℕ) (rs : List NodeRow) (f g : List Entry) → j < n → RowsRise n rs → quotients_from over y f rs ≡ Ok g
      → coefficient g j ≡ coefficient f j
  kept n j [] f g l a e = let d : g ≡ f = cc in ap (λ (k : List Entry). coefficient k j) d
  kept n j (r ∷ rs) f g l a e =
      let one = ended (div_walk (y r.row) over) (λ q. quotients_from over y (f ++ put r.row q []) rs) g e in
      kept (suc r.row) j rs (f ++ put r.row one.result []) g (omega (arith, l, a.0)) a.1 one.next_is
      ∙ put_other f r.row j one.result (λ q. absurd (omega (arith, l, q, a.0)))

  still_none : (c : ℕ) (q : ℚ) (f : List Entry) (rs : List NodeRow) → RowsRise (suc c) rs
      → Each (λ (r : NodeRow). coefficient f r.row ≡ zero_ℚ) rs → Each (λ (r : NodeRow). coefficient (f ++ put c q []) r.row ≡ zero_ℚ) rs
  still_none c q f [] a h = tt
  still_none c q f (r ∷ rs) a h = (
    put_other f c r.row q (λ e. absurd (omega (arith, e, a.0))) ∙ h.0,
    still_none c q f rs (weaker (suc r.row) (suc c) rs (omega (arith, a.0)) a.1) h.1,
  )

  -- the multiplier of each row is its number over the total
  quotients : (n : ℕ) (rs : List NodeRow) (f g : List Entry) → RowsRise n rs → Each (λ (r : NodeRow). coefficient f r.row ≡ zero_ℚ) rs
      → quotients_from over y f rs ≡ Ok g → Each (λ (r : NodeRow). coefficient g r.row ≡ y r.row /ℚ over) rs
  quotients n [] f g a z e = tt
  quotients n (r ∷ rs) f g a z e =
      let one = ended (div_walk (y r.row) over) (λ q. quotients_from over y (f ++ put r.row q []) rs) g e in (
        kept (suc r.row) r.row rs (f ++ put r.row one.result []) g (omega arith) a.1 one.next_is ∙ put_here f r.row one.result z.0
            ∙ walk_value Div (y r.row) over one.result one.first_is,
        quotients (suc r.row) rs (f ++ put r.row one.result []) g a.1 (still_none r.row one.result f rs a.1 z.1) one.next_is,
      )

nothing_yet : (rs : List NodeRow) → Each (λ (r : NodeRow). coefficient [] r.row ≡ zero_ℚ) rs
nothing_yet [] = tt
nothing_yet (r ∷ rs) = (refl, nothing_yet rs)

-- ---- the form of a cut rises
push_rises : (n c : ℕ) (v : ℚ) (f : List Entry) → n ≤ c → Ascending n f → EndsBelow c f → Ascending n (f ++ record { column = c; value = v } ∷ [])
push_rises n c v [] l a b = (l, tt)
push_rises n c v (e ∷ f) l a b = (a.0, push_rises (suc e.column) c v f (omega (arith, b.0)) a.1 b.1)

push_below : (c : ℕ) (v : ℚ) (f : List Entry) → EndsBelow c f → EndsBelow (suc c) (f ++ record { column = c; value = v } ∷ [])
push_below c v [] b = (omega arith, tt)
push_below c v (e ∷ f) b = (omega (arith, b.0), push_below c v f b.1)

below_more : (n m : ℕ) (f : List Entry) → n ≤ m → EndsBelow n f → EndsBelow m f
below_more n m [] l b = tt
below_more n m (e ∷ f) l b = (omega (arith, l, b.0), below_more n m f l b.1)

written_rises : (d : Datum) (s : Source) (uses : StoredUses) (n : ℕ) (done f : List Entry) (js : List ℕ) → NumbersRise n js → Ascending 0 done
    → EndsBelow n done → form_from d s uses done js ≡ Ok f → Ascending 0 f
written_rises d s uses n done f [] a r b e = let q : done ≡ f = cc in subst (λ (g : List Entry). Ascending 0 g) q r
written_rises d s uses n done f (j ∷ js) a r b e =
    let one = ended (earlier_walk d s uses j) (λ q. form_from d s uses (done ++ put j q []) js) f e in
    let more : Ascending 0 (done ++ put j one.result []) × EndsBelow (suc j) (done ++ put j one.result []) = go one.result (is_zero one.result) in
    written_rises d s uses (suc j) (done ++ put j one.result []) f js a.1 more.0 more.1 one.next_is
  where
    go : (q : ℚ) (z : Bool) → Ascending 0 (done ++ put_unless z j q []) × EndsBelow (suc j) (done ++ put_unless z j q [])
    go q true = subst (λ (g : List Entry). Ascending 0 g × EndsBelow (suc j) g) (sym (append-nil done))
        (r, below_more n (suc j) done (omega (arith, a.0)) b)
    go q false = (
      push_rises 0 j q done (omega arith) r (below_more n j done a.0 b),
      push_below j q done (below_more n j done a.0 b),
    )

form_made : (b : Bool) (x cut : Stored) → ◌≡◌ {A = Result (Option Stored) Operation} (Ok (cut_if b x)) (Ok (Some cut)) → form_of cut ≡ form_of x
form_made true x cut e = let q : cut ≡ x = cc in ap form_of q
form_made false x cut e = absurd (cc)

made_rises : (d : Datum) (s : Source) (uses : StoredUses) (cut : Stored) → NumbersRise 0 (all_columns d.rows uses) → made d s uses ≡ Ok (Some cut)
    → Ascending 0 (form_of cut)
made_rises d s uses cut a e =
    let one = ended (priced_from d s uses [] d.bounds) (λ priced. then_walk (form_from d s uses [] (all_columns d.rows uses)) (λ form. then_walk (constant_walk d s uses priced) (λ w. Ok (cut_if w.is_good (Stored_of s uses w.sum form))))) (Some cut) e in
    let two = ended (form_from d s uses [] (all_columns d.rows uses)) (λ form. then_walk (constant_walk d s uses one.result) (λ w. Ok (cut_if w.is_good (Stored_of s uses w.sum form)))) (Some cut) one.next_is in
    let three = ended (constant_walk d s uses one.result) (λ w. Ok (cut_if w.is_good (Stored_of s uses w.sum two.result))) (Some cut) two.next_is in
    subst (λ (g : List Entry). Ascending 0 g)
    (sym (form_made three.result.is_good (Stored_of s uses three.result.sum two.result) cut three.next_is))
    (written_rises d s uses 0 [] two.result (all_columns d.rows uses) a tt tt two.first_is)

-- ---- the used cuts in their order
abbrev zipped : List Share → List Stored → StoredUses
zipped [] cuts = No_stored
zipped (s ∷ ss) [] = No_stored
zipped (s ∷ ss) (c ∷ cs) = Use_stored s.share c (zipped ss cs)

abbrev join : StoredUses → StoredUses → StoredUses
join No_stored more = more
join (Use_stored w c uses) more = Use_stored w c (join uses more)

join_none : (uses : StoredUses) → join uses No_stored ≡ uses
join_none No_stored = refl
join_none (Use_stored w c uses) = ap (Use_stored w c) (join_none uses)

join_snoc : (uses : StoredUses) (w : ℚ) (c : Stored) (more : StoredUses) → join (snoc uses w c) more ≡ join uses (Use_stored w c more)
join_snoc No_stored w c more = refl
join_snoc (Use_stored v d uses) w c more = ap (Use_stored v d) (join_snoc uses w c more)

uses_zipped : (done : StoredUses) (ss : List Share) (cs : List Stored) → uses_of_children done ss cs ≡ join done (zipped ss cs)
uses_zipped done [] cs = sym (join_none done)
uses_zipped done (s ∷ ss) [] = sym (join_none done)
uses_zipped done (s ∷ ss) (c ∷ cs) = uses_zipped (snoc done s.share c) ss cs ∙ join_snoc done s.share c (zipped ss cs)

bare_node : (cut : Stored) → node_of (bare cut) ≡ (source_of cut).node
bare_node (Stored_of s uses constant form) = refl

pub lives_in : (kind : Kind) (p : Program) (n : ℕ) → Lives p n → IsLive (view_in kind p) n
lives_in run_kind.Feasible p n l = once-passes is_live n p.nodes l
lives_in run_kind.Recession p n l = once-passes is_live n p.nodes l
lives_in run_kind.Cost p n l = once-passes is_live n p.nodes l

total_in : (kind : Kind) (p : Program) (n : ℕ) → total (view_of p) n ≡ total (view_in kind p) n
total_in run_kind.Feasible p n = refl
total_in run_kind.Recession p n = refl
total_in run_kind.Cost p n = refl

-- a column of a stage before is none of the node's stage
earlier : (v : View) → IsTree v → (n j : ℕ) → v.stage_of j < v.stage n → IsEarlier (map (bounds_of v) (v.columns (v.stage n))) j
earlier v t n j l = each_mapped (λ (b : ColumnBounds). b.column ≡ j → ⊥) (bounds_of v) (v.columns (v.stage n))
    (each-map {Q = λ i. i ≡ j → ⊥} (λ i c e. absurd (omega (arith, l, c.stage, ap v.stage_of e))) (v.columns (v.stage n)) (t.columns (v.stage n)))

-- ---- the cuts of a good dual
module _ (kind : Kind) (p : Program) (tree : Tree) (i : IsProgram p) (t : tree_walk p ≡ Ok tree) (versions : List Version) (dual : List At)
    (good : IsGood (view_in kind p) (at dual)) (parts : (n : ℕ) → Lives p n → HasParts (datum_in kind p n (version_of versions n)))
    (cuts : List (Option Stored)) (low : ℕ)
    (there : (m : ℕ) → low ≤ m → Lives p m
    → (cut : Stored) × ((slice_index_or cuts m None ≡ Some cut) × IsFirstCut kind p tree versions dual cuts m cut)) where
  -- the cut is a ground cut of the dual for its node, with the slopes of its form
  pub record IsGroundHere (n : ℕ) (cut : Stored) : Type 0 where
    pub ground : IsGround (view_in kind p) (at dual) (bare cut)
    pub node : (source_of cut).node ≡ n
    pub same : (j : ℕ) → (view_in kind p).stage_of j < (view_in kind p).stage n
        → slope (view_in kind p) (bare cut) j ≡ coefficient (form_of cut) j
    pub rises : Ascending 0 (form_of cut)

  -- so it is with the cut of a child of n
  pub record ChildHere (n m : ℕ) : Type 0 where
    pub cut : Stored
    pub at_place : slice_index_or cuts m None ≡ Some cut
    pub here : IsGroundHere m cut
    pub stage : (view_in kind p).stage m ≡ suc ((view_in kind p).stage n)

  are_ground : (n : ℕ) (ms : List ℕ) → Each (ChildHere n) ms
      → AreGround (view_in kind p) (at dual) ms (bares (zipped (map (share_of (view_in kind p)) ms) (cuts_there cuts ms)))
  are_ground n [] h = tt
  are_ground n (m ∷ ms) h = go (slice_index_or cuts m None) h.0.at_place (are_ground n ms h.1)
    where
      go : (o : Option Stored) → o ≡ Some h.0.cut
          → AreGround (view_in kind p) (at dual) ms (bares (zipped (map (share_of (view_in kind p)) ms) (cuts_there cuts ms)))
          → AreGround (view_in kind p) (at dual) (m ∷ ms)
          (bares (zipped (share_of (view_in kind p) m ∷ map (share_of (view_in kind p)) ms) (option_to_list o ++ cuts_there cuts ms)))
      go None e rest = absurd (cc)
      go (Some c) e rest =
          let same : c ≡ h.0.cut = cc in (
            bare_node c ∙ ap (λ (x : Stored). (source_of x).node) same ∙ h.0.here.node,
            refl,
            subst (λ (x : Stored). IsGround (view_in kind p) (at dual) (bare x)) (sym same) h.0.here.ground,
            rest,
          )

  same_slopes : (n : ℕ) (ms : List ℕ) → Each (ChildHere n) ms → (j : ℕ) → (view_in kind p).stage_of j < suc ((view_in kind p).stage n)
      → slopes (view_in kind p) (bares (zipped (map (share_of (view_in kind p)) ms) (cuts_there cuts ms))) j
      ≡ form_sum (zipped (map (share_of (view_in kind p)) ms) (cuts_there cuts ms)) j
  unfolding slope
  same_slopes n [] h j l = refl
  same_slopes n (m ∷ ms) h j l = go (slice_index_or cuts m None) h.0.at_place (same_slopes n ms h.1 j l)
    where
      go : (o : Option Stored) → o ≡ Some h.0.cut
          → slopes (view_in kind p) (bares (zipped (map (share_of (view_in kind p)) ms) (cuts_there cuts ms))) j
          ≡ form_sum (zipped (map (share_of (view_in kind p)) ms) (cuts_there cuts ms)) j
          → slopes (view_in kind p)
          (bares (zipped (share_of (view_in kind p) m ∷ map (share_of (view_in kind p)) ms) (option_to_list o ++ cuts_there cuts ms))) j
          ≡ form_sum (zipped (share_of (view_in kind p) m ∷ map (share_of (view_in kind p)) ms) (option_to_list o ++ cuts_there cuts ms)) j
      go None e rest = absurd (cc)
      go (Some c) e rest =
          let same : c ≡ h.0.cut = cc in
          ap₂ (λ a b. share (view_in kind p) m *ℚ a +ℚ b)
          (subst (λ (x : Stored). slope (view_in kind p) (bare x) j ≡ coefficient (form_of x) j) (sym same)
          (h.0.here.same j (omega (arith, l, h.0.stage)))) rest

  -- ---- at node n
  module _ (n : ℕ) (lives : Lives p n) (below : (m : ℕ) → n < m → Lives p m
      → (cut : Stored) × ((slice_index_or cuts m None ≡ Some cut) × IsFirstCut kind p tree versions dual cuts m cut))
      (children_here : Each (ChildHere n) (children (view_in kind p) n)) where
    abbrev d : Datum
    d = datum_in kind p n (version_of versions n)

    abbrev over : ℚ
    over = get_or tree.chances.totals n zero_ℚ

    abbrev of_children : List Stored
    of_children = cuts_there cuts (children_in (frame_of p) n)

    abbrev uses : StoredUses
    uses = uses_of_children No_stored (map (share_of (view_in kind p)) (children (view_in kind p) n)) of_children

    same_children : children_in (frame_of p) n ≡ children (view_in kind p) n
    same_children = own_children p i n lives ∙ sym (children_same kind p n)

    uses_are : uses ≡ zipped (map (share_of (view_in kind p)) (children (view_in kind p) n)) (cuts_there cuts (children (view_in kind p) n))
    uses_are = uses_zipped No_stored (map (share_of (view_in kind p)) (children (view_in kind p) n)) of_children
        ∙ ap (λ (ms : List ℕ). zipped (map (share_of (view_in kind p)) (children (view_in kind p) n)) (cuts_there cuts ms)) same_children

    one_each : AreOfChildren d.shares of_children
    one_each = are_of_children kind p tree versions dual cuts n i lives below

    forms_rise : Each (λ c. Ascending 0 (form_of c)) of_children
    forms_rise = each_there (λ c. Ascending 0 (form_of c)) cuts (children_in (frame_of p) n)
        (subst (Each (λ m. (cut : Stored) → slice_index_or cuts m None ≡ Some cut → Ascending 0 (form_of cut))) (sym same_children)
        (each-map {Q = λ m. (cut : Stored) → slice_index_or cuts m None ≡ Some cut → Ascending 0 (form_of cut)}
        (λ m h cut e. let same : h.cut ≡ cut = (let q : Some h.cut ≡ Some cut = sym h.at_place ∙ e in cc) in
        subst (λ (x : Stored). Ascending 0 (form_of x)) same h.here.rises) (children (view_in kind p) n) children_here))

    columns_above : NumbersRise 0 (all_columns d.rows uses)
    columns_above = columns_rise d.rows uses (parts n lives).forms (all_ascend No_stored d.shares of_children tt forms_rise)

    -- the record with the quotients is a ground cut
    module _ (q : List Entry) (quotients_are : quotients_from over (at dual n) [] d.rows ≡ Ok q) where
      is_ground : IsGround (view_in kind p) (at dual) (Cut_of n Bound q (bares uses))
      is_ground = (
        refl,
        subst (λ z. Each (λ (r : NodeRow). coefficient q r.row ≡ at dual n r.row /ℚ z) ((view_in kind p).rows n))
            (tree_total p tree n t lives ∙ total_in kind p n)
            (quotients over (at dual n) 0 d.rows [] q (parts n lives).rows (nothing_yet d.rows) quotients_are),
        subst (λ (us : StoredUses). AreGround (view_in kind p) (at dual) (children (view_in kind p) n) (bares us)) (sym uses_are)
            (are_ground n (children (view_in kind p) n) children_here),
      )

      same_slope : (j : ℕ) → (view_in kind p).stage_of j < suc ((view_in kind p).stage n)
          → slope (view_in kind p) (Cut_of n Bound q (bares uses)) j ≡ slope_of d (ground_source d q) uses j
      unfolding slope
      same_slope j l =
          ap (λ z. z -ℚ sum_ℚ (λ (r : NodeRow). coefficient r.entries j *ℚ coefficient q r.row) ((view_in kind p).rows n))
          (subst (λ (us : StoredUses). slopes (view_in kind p) (bares us) j ≡ form_sum us j) (sym uses_are)
          (same_slopes n (children (view_in kind p) n) children_here j l))

    -- so the cut that the walk makes is one
    made_here : (cut : Stored) → ground_walk d over dual of_children ≡ Ok (Some cut) → IsGroundHere n cut
    made_here cut e =
        let one = ended (quotients_from over (at dual n) [] d.rows) (λ y. made d (ground_source d y) uses) (Some cut) e in
        let both : (source_of cut ≡ ground_source d one.result) × (uses_of cut ≡ uses)
        = made_parts d (ground_source d one.result) uses cut one.next_is in
        let from : IsMadeFrom d (source_of cut) (uses_of cut) (constant_of cut) (form_of cut)
        = ground_is_made d over dual of_children cut (parts n lives) one_each forms_rise e in
        record {
          ground = ground_by cut one.result both.0 both.1 (is_ground one.result one.first_is);
          node = ap (λ (s : Source). s.node) both.0;
          same = λ j l. slope_by cut one.result both.0 both.1 j (same_slope one.result one.first_is j (omega (arith, l)))
              ∙ sym (from.form_is j (earlier (view_in kind p) (tree_in kind p i) n j l));
          rises = made_rises d (ground_source d one.result) uses cut columns_above one.next_is;
        }
      where
        ground_by : (cut : Stored) (q : List Entry) → source_of cut ≡ ground_source d q → uses_of cut ≡ uses
            → IsGround (view_in kind p) (at dual) (Cut_of n Bound q (bares uses)) → IsGround (view_in kind p) (at dual) (bare cut)
        ground_by (Stored_of s us constant form) q e u g =
            subst (λ (x : Source). IsGround (view_in kind p) (at dual) (Cut_of x.node x.kind x.multipliers (bares us))) (sym e)
            (subst (λ (x : StoredUses). IsGround (view_in kind p) (at dual) (Cut_of n Bound q (bares x))) (sym u) g)

        slope_by : (cut : Stored) (q : List Entry) → source_of cut ≡ ground_source d q → uses_of cut ≡ uses → (j : ℕ)
            → slope (view_in kind p) (Cut_of n Bound q (bares uses)) j ≡ slope_of d (ground_source d q) uses j
            → slope (view_in kind p) (bare cut) j ≡ slope_of d (source_of cut) (uses_of cut) j
        slope_by (Stored_of s us constant form) q e u j g =
            subst (λ (x : Source). slope (view_in kind p) (Cut_of x.node x.kind x.multipliers (bares us)) j ≡ slope_of d x us j) (sym e)
            (subst (λ (x : StoredUses). slope (view_in kind p) (Cut_of n Bound q (bares x)) j ≡ slope_of d (ground_source d q) x j) (sym u) g)

    -- and it makes one, since each end that it uses is finite
    makes_here : ground_walk d over dual of_children ≡ Ok None → ⊥
    makes_here e =
        let one = ended (quotients_from over (at dual n) [] d.rows) (λ y. made d (ground_source d y) uses) None e in
        let s : Source = ground_source d one.result in
        let is : IsMade (view_in kind p) (Cut_of n Bound one.result (bares uses))
        = ground_cuts_are_made (view_in kind p) (at dual) (Cut_of n Bound one.result (bares uses)) (tree_in kind p i) good (lives_in kind p n lives)
        (is_ground one.result one.first_is) in
        let may : MayBeMade (bare_datum d) (ground_source (bare_datum d) one.result) uses
        = may_be_ground (bare_datum d) over dual of_children one.result uses (is_bare d (parts n lives)) one_each one.first_is refl in
        let two = ended (priced_from d s uses [] d.bounds) (λ priced. then_walk (form_from d s uses [] (all_columns d.rows uses)) (λ form. then_walk (constant_walk d s uses priced) (λ w. Ok (cut_if w.is_good (Stored_of s uses w.sum form))))) None one.next_is in
        let three = ended (form_from d s uses [] (all_columns d.rows uses)) (λ form. then_walk (constant_walk d s uses two.result) (λ w. Ok (cut_if w.is_good (Stored_of s uses w.sum form)))) None two.next_is in
        let reduced : Each (λ j. IsGoodAt ((view_in kind p).lower j) ((view_in kind p).upper j) (reduced_of d (ground_source d one.result) uses j)) ((view_in kind p).columns ((view_in kind p).stage n))
        = each-both {R = λ j. IsGoodAt ((view_in kind p).lower j) ((view_in kind p).upper j) (reduced_of d (ground_source d one.result) uses j)}
        (λ j c g. subst (IsGoodAt ((view_in kind p).lower j) ((view_in kind p).upper j))
        (ap (λ z. coefficient ((view_in kind p).cost n) j +ℚ z) (same_slope one.result one.first_is j (omega (arith, c.stage)))) g)
        ((view_in kind p).columns ((view_in kind p).stage n)) ((tree_in kind p i).columns ((view_in kind p).stage n)) is.0.bounds in
        nothing_is_made d s uses
        (sum_ℚ (λ (r : NodeRow). worth r.low r.high (coefficient s.multipliers r.row)) d.rows
        +ℚ sum_ℚ (λ (b : ColumnBounds). worth b.lower b.upper (reduced_of d s uses b.column)) d.bounds
        +ℚ constant_sum uses) three.result one.next_is
        (record {
          on_rows = may.on_rows;
          weights = may.weights;
          rows = is.0.rows;
          bounds = each_mapped (λ (b : ColumnBounds). IsGoodAt b.lower b.upper (reduced_of d (ground_source d one.result) uses b.column))
              (bounds_of (view_in kind p)) ((view_in kind p).columns ((view_in kind p).stage n)) reduced;
          constant_is = refl;
          form_is = λ j h. form_is d s uses three.result columns_above three.first_is j h;
        })

  -- ---- from the last nodes on
  place_children : (n : ℕ) → Lives p n
      → Each (λ m. (cut : Stored) × ((slice_index_or cuts m None ≡ Some cut) × IsGroundHere m cut)) (children_in (frame_of p) n)
      → Each (ChildHere n) (children (view_in kind p) n)
  place_children n lives h =
      each-both {R = ChildHere n} (λ m a e. record { cut = a.0; at_place = a.1.0; here = a.1.1; stage = e }) (children (view_in kind p) n)
      (subst (Each (λ m. (cut : Stored) × ((slice_index_or cuts m None ≡ Some cut) × IsGroundHere m cut)))
      (own_children p i n lives ∙ sym (children_same kind p n)) h)
      (each-child (view_in kind p) (tree_in kind p i) n (λ m. (view_in kind p).stage m ≡ suc ((view_in kind p).stage n))
      (λ m live is. (child-is (view_in kind p) n m is).stage))

  all_here : (k n : ℕ) → length p.nodes ≤ n + k → low ≤ n → Lives p n
      → (cut : Stored) × ((slice_index_or cuts n None ≡ Some cut) × IsGroundHere n cut)
  all_here zero n long from lives = absurd (omega (arith, long, passes-within is_live n p.nodes lives))
  all_here (suc k) n long from lives =
      let f = there n from lives in (
        f.0,
        (
          f.1.0,
          made_here n lives (λ m less l. there m (omega (arith, less, from)) l)
              (place_children n lives (each-map {Q = λ m. (cut : Stored) × ((slice_index_or cuts m None ≡ Some cut) × IsGroundHere m cut)}
              (λ m h. all_here k m (omega (arith, long, h.1)) (omega (arith, from, h.1)) h.0) (children_in (frame_of p) n) (children_after p i n lives)))
              f.0 f.1.1,
        ),
      )

  -- where the nodes behind node n have their cuts, it gets one
  pub makes_one : (n : ℕ) → n + 1 ≡ low → Lives p n
      → ground_walk (datum_in kind p n (version_of versions n)) (get_or tree.chances.totals n zero_ℚ) dual (cuts_there cuts (children_in (frame_of p) n)) ≡ Ok None → ⊥
  makes_one n e lives walk =
      makes_here n lives (λ m less l. there m (omega (arith, less, e)) l)
      (place_children n lives (each-map {Q = λ m. (cut : Stored) × ((slice_index_or cuts m None ≡ Some cut) × IsGroundHere m cut)}
      (λ m h. all_here (length p.nodes) m (omega arith) (omega (arith, e, h.1)) h.0) (children_in (frame_of p) n) (children_after p i n lives))) walk
