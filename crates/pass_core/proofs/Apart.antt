-- A solve that was begun stays as it was, where a node apart from its own is solved.
use Rattle.std.proofs.Common.{◌≡◌, ℕ, zero, suc, ◌<◌, inl, inr, Bool, List, [], ◌∷◌, ◌++◌, Option, Some, None, Result, Ok, Err, IfSome, get_or, slice_get, refl, sym, ap, ap₂, subst, ◌∙◌, arith}
use Rattle.std.specs.List.{Contains}
use Rattle.std.specs.Option.{option_map, option_to_list}
use Rattle.rationals.specs.Passes.{Operation, then_value}
use Rattle.rationals.specs.Forms.{add_scaled_walk}
use Rattle.rationals.specs.Sparse.{Entry}
use Rattle.scen_defs.specs.Program.{Program}
use Rattle.scen_defs.specs.declared.report.Kind.{Kind}
use Rattle.scen_defs.specs.Valid.{IsProgram, Lives}
use Rattle.scen_tree.specs.Trees.{Tree, tree_walk}
use Rattle.cut_defs.specs.Data.{Datum}
use Rattle.cut_pool.specs.Held.{Held}
use Rattle.cut_banks.specs.Banks.{pools_of}
use Rattle.cut_banks.specs.Pools.{may_take, with_pool, reading, cuts_read, numbers_read}
use Rattle.node_lp.specs.declared.solved.Solved.{Solved}
use Rattle.node_lp.specs.declared.solved.Solved.TheVariants as solved
use Rattle.pass_table.specs.declared.table.Table.{Table}
use Rattle.pass_table.specs.Machine.{next, Flight, Machine, IsChild}
use Rattle.crew_turns.specs.Turn.{AreChildren}
use Rattle.crew_turns.specs.Clear.{SharePath}
use Rattle.node_data.specs.declared.versions.Version.{Version}
use Rattle.node_data.specs.Counts.{version_of}
use Rattle.node_data.specs.Frames.{Frame, frame_of, parent_in, children_in}
use Rattle.found_ends.specs.declared.last.Last.{Last}
use Rattle.found_ends.specs.Lasts.{last_at, along_of, trial_of, with_last, kept}
use Rattle.pass_core.specs.declared.budget.Budget.{Budget}
use Rattle.pass_core.specs.declared.state.State.{State}
use Rattle.pass_core.specs.Tabled.{IsAbout, IsTabledIn}
use Rattle.pass_core.specs.Turns.{datum_in, SolvesProgram}
use Rattle.pass_core.specs.Left.{LeavesBy, OffersCut}
use Rattle.pass_core.proofs.CutNodes.{answer_about}
use Rattle.pass_core.proofs.Parentage.{children_are}
use Rattle.rationals.specs.Rational.{one_ℚ}
use Rattle.cut_defs.specs.Stored.{Stored, source_of}
use Rattle.cut_banks.specs.declared.banks.Banks.{Banks}
use Rattle.pass_core.specs.Apart.{StaysAsBegun}
use Rattle.pass_core.proofs.Tabling.{pools_there}

-- ---- last solves
pub last_other : (lasts : List (Option Last)) (n : ℕ) (x : Option Last) (j : ℕ) → (j ≡ n → ⊥) → last_at (with_last lasts n x) j ≡ last_at lasts j
last_other [] n x j ne = refl
last_other (l ∷ ls) zero x zero ne = absurd (ne refl)
last_other (l ∷ ls) zero x (suc j) ne = refl
last_other (l ∷ ls) (suc n) x zero ne = refl
last_other (l ∷ ls) (suc n) x (suc j) ne = last_other ls n x j (λ e. ne (ap suc e))

-- ---- the trial of a node, where another node's last solve changes
got : (xs : List ℕ) (j m : ℕ) → slice_get xs j ≡ Some m → get_or xs j 0 ≡ m
got [] j m e = absurd (cc)
got (x ∷ xs) zero m e = let q : x ≡ m = cc in q
got (x ∷ xs) (suc j) m e = got xs j m e

pub trial_same : (la lb : List (Option Last)) (frame : Frame) (n j : ℕ) → ((i : ℕ) → (i ≡ n → ⊥) → last_at lb i ≡ last_at la i)
    → (0 < j → get_or frame.parents j 0 ≡ n → ⊥) → trial_of lb (parent_in frame j) ≡ trial_of la (parent_in frame j)
trial_same la lb frame n zero others not_below = refl
trial_same la lb frame n (suc j) others not_below = go (slice_get frame.parents (suc j)) refl
  where
    go : (o : Option ℕ) → slice_get frame.parents (suc j) ≡ o → trial_of lb o ≡ trial_of la o
    go None e = refl
    go (Some m) e = ap along_of (others m (λ q. not_below (omega arith) (got frame.parents (suc j) m e ∙ q)))

-- ---- what a kept point leaves
value_ok : {A B : Type 0} (f : A → B) (w : Result A Operation) (r : B) → then_value f w ≡ Ok r → (x : A) × ((w ≡ Ok x) × (f x ≡ r))
value_ok f (Ok x) r e = (x, (refl, cc))
value_ok f (Err o) r e = absurd (cc)

pub record IsKept (la lb : List (Option Last)) (n : ℕ) (trial x : List Entry) : Type 0 where
  pub along : List Entry
  pub sum : add_scaled_walk trial one_ℚ x ≡ Ok along
  pub is : with_last la n (Some (record { point = x; along = along })) ≡ lb

pub kept_is : (la lb : List (Option Last)) (n : ℕ) (trial x : List Entry) → kept la n trial x ≡ Ok lb → IsKept la lb n trial x
kept_is la lb n trial x e =
    let a = value_ok (λ (along : List Entry). with_last la n (Some (record { point = x; along = along }))) (add_scaled_walk trial one_ℚ x) lb e in
    record { along = a.0; sum = a.1.0; is = a.1.1 }

-- pools that are the same are read the same
pub reads_same : (old new : List Held) (cs : List ℕ) → ((c : ℕ) → Contains cs c → slice_get new c ≡ slice_get old c) → cuts_read new cs ≡ cuts_read old cs
reads_same old new [] h = refl
reads_same old new (c ∷ cs) h = ap₂ ◌++◌
    (ap (λ (o : Option Held). option_to_list (option_map (λ (p : Held). (c, p.cuts)) o)) (h c (0, omega arith, refl)))
    (reads_same old new cs (λ d i. h d (suc i.0, omega (arith, i.1), i.2)))

-- pools that are the same have the same numbers
numbers_same : (old new : List Held) (cs : List ℕ) → ((c : ℕ) → Contains cs c → slice_get new c ≡ slice_get old c) → numbers_read new cs ≡ numbers_read old cs
numbers_same old new [] h = refl
numbers_same old new (c ∷ cs) h = ap₂ ◌++◌
    (ap (λ (o : Option Held). option_to_list (option_map (reading c) o)) (h c (0, omega arith, refl)))
    (numbers_same old new cs (λ d i. h d (suc i.0, omega (arith, i.1), i.2)))

-- a solve leaves the last solves of the other nodes
pub lasts_stay : (p : Program) (tree : Tree) (n : ℕ) (trial : List Entry) (all : Solved) (old new : State) → LeavesBy p tree n trial all old new
    → (j : ℕ) → (j ≡ n → ⊥) → last_at new.lasts.nodes.items j ≡ last_at old.lasts.nodes.items j
lasts_stay p tree n trial (solved.Point x value cut) old new l j ne =
    let keeps = kept_is old.lasts.nodes.items new.lasts.nodes.items n trial x l.lasts in
    ap (λ (ls : List (Option Last)). last_at ls j) (sym keeps.is) ∙ last_other old.lasts.nodes.items n _ j ne
lasts_stay p tree n trial (solved.NoPoint cut) old new l j ne =
    ap (λ (ls : List (Option Last)). last_at ls j) l.lasts ∙ last_other old.lasts.nodes.items n None j ne
lasts_stay p tree n trial solved.Loose old new l j ne = absurd l
lasts_stay p tree n trial solved.PivotsEnded old new l j ne = absurd l
lasts_stay p tree n trial (solved.Passed in_cut o) old new l j ne = absurd l
lasts_stay p tree n trial solved.NotGood old new l j ne = absurd l

-- and the pools of the other nodes
other_pool : (test : Held → Bool) (change : Held → Held) (n : ℕ) (pools : List Held) (j : ℕ) → (j ≡ n → ⊥)
    → slice_get (with_pool test change n pools) j ≡ slice_get pools j
other_pool test change n [] j ne = refl
other_pool test change zero (p ∷ ps) zero ne = absurd (ne refl)
other_pool test change zero (p ∷ ps) (suc j) ne = refl
other_pool test change (suc n) (p ∷ ps) zero ne = refl
other_pool test change (suc n) (p ∷ ps) (suc j) ne = other_pool test change n ps j (λ e. ne (ap suc e))

offer_apart : (kind : Kind) (n : ℕ) (cut : Option Stored) (trial : List Entry) (old new : Banks) → IfSome cut (λ c. (source_of c).node ≡ n)
    → OffersCut kind n cut trial old new → (j : ℕ) → (j ≡ n → ⊥) → slice_get (pools_of kind new) j ≡ slice_get (pools_of kind old) j
offer_apart kind zero cut trial old new about e j ne = ap (λ (b : Banks). slice_get (pools_of kind b) j) e
offer_apart kind (suc n) None trial old new about e j ne = ap (λ (b : Banks). slice_get (pools_of kind b) j) e
offer_apart kind (suc n) (Some cut) trial old new about h j ne =
    ap (λ (b : Banks). slice_get (pools_of kind b) j) h.banks
    ∙ ap (λ (ps : List Held). slice_get ps j) (pools_there kind _ old)
    ∙ other_pool (may_take cut) _ (source_of cut).node (pools_of kind old) j (λ e. ne (e ∙ about))

pub pools_apart : (p : Program) (tree : Tree) (n : ℕ) (trial : List Entry) (all : Solved) (old new : State) → IsAbout n all
    → LeavesBy p tree n trial all old new → (j : ℕ) → (j ≡ n → ⊥)
    → slice_get (pools_of old.kind new.banks) j ≡ slice_get (pools_of old.kind old.banks) j
pools_apart p tree n trial (solved.Point x value cut) old new about l j ne = offer_apart old.kind n cut trial old.banks new.banks about l.banks j ne
pools_apart p tree n trial (solved.NoPoint cut) old new about l j ne =
    offer_apart old.kind n (Some cut) trial old.banks new.banks about l.banks j ne
pools_apart p tree n trial solved.Loose old new about l j ne = absurd l
pools_apart p tree n trial solved.PivotsEnded old new about l j ne = absurd l
pools_apart p tree n trial (solved.Passed in_cut o) old new about l j ne = absurd l
pools_apart p tree n trial solved.NotGood old new about l j ne = absurd l

-- whatever the table answers, and however the solve ends
pub stay_begun : (Answers : Table → Machine → Type 0) (Ends : (Machine → Flight → Bool → Machine → Type 0) → Type 0) (p : Program) (tree : Tree)
    (old new : State) (m : Machine) (n k : ℕ) → IsProgram p → tree_walk p ≡ Ok tree → old.frame ≡ frame_of p → IsTabledIn Answers p old m → Lives p k
    → SolvesProgram Ends p old n new → new.stop ≡ None → (SharePath m n k → ⊥) → StaysAsBegun p old new k
stay_begun Answers Ends p tree old new m n k i walk frame table lives solve none apart = record {
  task = λ t s. record {
    kind = s.kind ∙ sym solve.stays.kind;
    datum = s.datum ∙ ap (λ (z : Kind). datum_in z p k (version_of old.versions k)) (sym solve.stays.kind)
        ∙ ap (λ (vs : List Version). datum_in new.kind p k (version_of vs k)) (sym solve.stays.versions);
    trial = s.trial ∙ sym trial;
    cuts = s.cuts ∙ sym (read cuts_read (reads_same before after (children_in old.frame k) same));
    pivots = s.pivots ∙ ap (λ (x : Budget). x.pivots) (sym solve.stays.budget);
  };
  readings = read numbers_read (numbers_same before after (children_in old.frame k) same);
}
  where
    before : List Held
    before = pools_of old.kind old.banks

    after : List Held
    after = pools_of old.kind new.banks

    left : LeavesBy p tree n solve.task.trial solve.all old new
    left = solve.leaves tree walk none

    pools : (j : ℕ) → (j ≡ n → ⊥) → slice_get after j ≡ slice_get before j
    pools = pools_apart p tree n solve.task.trial solve.all old new
        (answer_about solve.task n solve.all (ap (λ (d : Datum). d.node) solve.is_task.datum) solve.answer) left

    children : AreChildren m k (children_in old.frame k)
    children = subst (λ (f : Frame). AreChildren m k (children_in f k)) (sym frame)
        (children_are p m i table.machine.live (λ q. ap (λ (g : ℕ → ℕ). g q) table.machine.parent ∙ ap (λ (f : Frame). get_or f.parents q 0) frame) k lives)

    -- no pool of a child is that of the node that was solved
    same : (c : ℕ) → Contains (children_in old.frame k) c → slice_get after c ≡ slice_get before c
    same c i = pools c (λ e.
        let child : IsChild m k n = subst (IsChild m k) e ((children c).1 i) in
        apart (inr (inr (next n child.lower child.parent))))

    -- nor is the parent that node
    trial : trial_of new.lasts.nodes.items (parent_in new.frame k) ≡ trial_of old.lasts.nodes.items (parent_in old.frame k)
    trial = ap (λ (f : Frame). trial_of new.lasts.nodes.items (parent_in f k)) solve.stays.frame
        ∙ trial_same old.lasts.nodes.items new.lasts.nodes.items old.frame n k
        (lasts_stay p tree n solve.task.trial solve.all old new left)
        (λ low e. apart (inr (inl (next k low (ap (λ (g : ℕ → ℕ). g k) table.machine.parent ∙ e)))))

    read : {A : Type 0} (look : List Held → List ℕ → A) → look after (children_in old.frame k) ≡ look before (children_in old.frame k)
        → look (pools_of new.kind new.banks) (children_in new.frame k) ≡ look before (children_in old.frame k)
    read look e = ap (λ (f : Frame). look (pools_of new.kind new.banks) (children_in f k)) solve.stays.frame
        ∙ ap (λ (z : Kind). look (pools_of z new.banks) (children_in old.frame k)) solve.stays.kind ∙ e
