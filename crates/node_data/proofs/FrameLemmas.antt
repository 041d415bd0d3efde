-- The children and the columns of a frame, one by one.
use Rattle.std.proofs.Common.{◌≡◌, ◌∙◌, ap, ap₂, sym, refl, ℕ, zero, suc, ◌+◌, ◌<◌, ◌≤◌, Bool, true, false, eqb, List, [], ◌∷◌, ◌++◌, length, get_or, set, map, replicate, Option, append_assoc, append-nil, arith, add-zero, lt-ltb}
use Rattle.std.proofs.lemmas.Bool.Decides.{nat_tests}
use Rattle.rationals.specs.Choices.{pick}
use Rattle.scen_defs.specs.Lists.{places}
use Rattle.scen_defs.specs.declared.program.Column.{Column}
use Rattle.scen_defs.specs.declared.program.Node.{Node as NodeOf}
use Rattle.scen_defs.specs.Program.{Program, view_of, column_at, nodes_content}
use Rattle.cut_defs.specs.declared.datum.ColumnBounds.{ColumnBounds}
use Rattle.cut_defs.specs.Data.{bounds_of}
use Rattle.node_data.specs.declared.frame.StageColumns.{StageColumns}
use Rattle.node_data.specs.Frames.{Frame, columns_from, stage_lists, with_column, columns_in}

both : {one other : List ColumnBounds} {rest others : List (List ColumnBounds)} → one ≡ other → rest ≡ others → one ∷ rest ≡ other ∷ others
both a b = ap₂ (λ (s : List ColumnBounds) (ss : List (List ColumnBounds)). s ∷ ss) a b

pub stages_push : (all : List StageColumns) (one : StageColumns) → stage_lists (all ++ one ∷ []) ≡ stage_lists all ++ one.columns.items ∷ []
stages_push [] one = refl
stages_push (first ∷ all) one = both refl (stages_push all one)

pub stages_length : (all : List StageColumns) → length (stage_lists all) ≡ length all
stages_length [] = refl
stages_length (one ∷ all) = ap suc (stages_length all)

pub stages_at : (all : List StageColumns) (i : ℕ) (one : StageColumns) → i < length all → one ≡ get_or all i one → get_or (stage_lists all) i [] ≡ one.columns.items
stages_at [] i one below is = absurd (omega arith)
stages_at (first ∷ all) zero one below is = ap (λ (s : StageColumns). s.columns.items) (sym is)
stages_at (first ∷ all) (suc i) one below is = stages_at all i one (omega arith) is

unlike : (a b : ℕ) → (a ≡ b → ⊥) → eqb a b ≡ false
unlike a b ne = grind (arith, nat_tests)

like : (a b : ℕ) → a ≡ b → eqb a b ≡ true
like a b e = grind (arith, nat_tests)

-- column j with its bounds
abbrev pub bounded : ℕ → Column → ColumnBounds
bounded j c = record { column = j; lower = c.lower; upper = c.upper }

pub stage_past : (j : ℕ) (c : Column) (k : ℕ) (all : List (List ColumnBounds)) → ((m : ℕ) → k ≤ m → m < k + length all → c.stage ≡ m → ⊥) → with_column j c k all ≡ all
stage_past j c k [] apart = refl
stage_past j c k (stage ∷ all) apart =
    both (ap (λ b. pick b (stage ++ bounded j c ∷ []) stage) (unlike c.stage k (λ e. apart k (omega arith) (omega arith) e))) (stage_past j c (suc k) all (λ m low high e. apart m (omega arith) (omega arith) e))

pub stage_at : (j : ℕ) (c : Column) (i k : ℕ) (all : List StageColumns) (old new : StageColumns) → c.stage ≡ k + i → i < length all → old ≡ get_or all i old → new.columns.items ≡ old.columns.items ++ bounded j c ∷ [] →
    stage_lists (set all i new) ≡ with_column j c k (stage_lists all)
stage_at j c i k [] old new at below is made = absurd (omega arith)
stage_at j c zero k (first ∷ all) old new at below is made =
    both (made ∙ ap (λ (s : StageColumns). s.columns.items ++ bounded j c ∷ []) is ∙ sym (ap (λ b. pick b (first.columns.items ++ bounded j c ∷ []) first.columns.items) (like c.stage k (omega arith))))
    (sym (stage_past j c (suc k) (stage_lists all) (λ m low high e. omega arith)))
stage_at j c (suc i) k (first ∷ all) old new at below is made =
    both (sym (ap (λ b. pick b (first.columns.items ++ bounded j c ∷ []) first.columns.items) (unlike c.stage k (λ e. omega arith)))) (stage_at j c i (suc k) all old new (omega arith) (omega arith) is made)

-- ---- column by column
-- those of stage k among columns, the first of which has the number j
abbrev pub bounds_from : ℕ → ℕ → List Column → List ColumnBounds
bounds_from k j [] = []
bounds_from k j (c ∷ columns) = pick (eqb c.stage k) (bounded j c ∷ bounds_from k (suc j) columns) (bounds_from k (suc j) columns)

-- the stages with those among further columns, the first of which has the number j
abbrev pub finished : List Column → ℕ → ℕ → List (List ColumnBounds) → List (List ColumnBounds)
finished rest j k [] = []
finished rest j k (stage ∷ all) = (stage ++ bounds_from k j rest) ∷ finished rest j (suc k) all

pub bounds_are : (p : Program) (k j : ℕ) (rest : List Column) → ((i : ℕ) → column_at p.columns (j + i) ≡ column_at rest i)
    → bounds_from k j rest ≡ map (bounds_of (view_of p)) (places (λ (c : Column). eqb c.stage k) j rest)
bounds_are p k j [] same = refl
bounds_are p k j (c ∷ rest) same = go (eqb c.stage k) (bounds_are p k (suc j) rest (λ i. ap (column_at p.columns) (let e : suc j + i ≡ j + suc i = omega arith in e) ∙ same (suc i)))
  where
    here : bounded j c ≡ bounds_of (view_of p) j
    here = ap (bounded j) (sym (ap (column_at p.columns) (sym (add-zero j)) ∙ same 0))

    go : (b : Bool) → bounds_from k (suc j) rest ≡ map (bounds_of (view_of p)) (places (λ (c : Column). eqb c.stage k) (suc j) rest)
        → pick b (bounded j c ∷ bounds_from k (suc j) rest) (bounds_from k (suc j) rest)
        ≡ map (bounds_of (view_of p)) (elim b [ true ↦ j ∷ places (λ (c : Column). eqb c.stage k) (suc j) rest | false ↦ places (λ (c : Column). eqb c.stage k) (suc j) rest ])
    go true e = ap₂ (λ (x : ColumnBounds) (xs : List ColumnBounds). x ∷ xs) here e
    go false e = e

pub columns_begin : (p : Program) (k count : ℕ) → finished p.columns 0 k (replicate count []) ≡ columns_from (view_of p) k count
columns_begin p k zero = refl
columns_begin p k (suc count) = both (bounds_are p k 0 p.columns (λ i. ap (column_at p.columns) (let e : 0 + i ≡ i = omega arith in e))) (columns_begin p (suc k) count)

pub columns_end : (j k : ℕ) (all : List (List ColumnBounds)) → finished [] j k all ≡ all
columns_end j k [] = refl
columns_end j k (stage ∷ all) = both (append-nil stage) (columns_end j (suc k) all)

pub columns_more : (c : Column) (rest : List Column) (j k : ℕ) (all : List (List ColumnBounds)) → finished (c ∷ rest) j k all ≡ finished rest (suc j) k (with_column j c k all)
columns_more c rest j k [] = refl
columns_more c rest j k (stage ∷ all) = both (go (eqb c.stage k)) (columns_more c rest j (suc k) all)
  where
    go : (b : Bool) → stage ++ pick b (bounded j c ∷ bounds_from k (suc j) rest) (bounds_from k (suc j) rest) ≡ pick b (stage ++ bounded j c ∷ []) stage ++ bounds_from k (suc j) rest
    go true = sym (append_assoc stage (bounded j c ∷ []) (bounds_from k (suc j) rest))
    go false = refl

-- ---- reads
pub number_at : (xs : List ℕ) (i x : ℕ) → i < length xs → x ≡ get_or xs i x → x ≡ get_or xs i 0
number_at [] i x below is = absurd (omega arith)
number_at (y ∷ xs) zero x below is = is
number_at (y ∷ xs) (suc i) x below is = number_at xs i x (omega arith) is

pub nodes_length : (nodes : List (Option NodeOf)) → length (nodes_content nodes) ≡ length nodes
nodes_length [] = refl
nodes_length (place ∷ nodes) = ap suc (nodes_length nodes)

pub same_frame : {parents parents' : List ℕ} {children children' : List (List ℕ)} {stages stages' : List ℕ} {columns columns' : List (List ColumnBounds)}
    → parents ≡ parents' → children ≡ children' → stages ≡ stages' → columns ≡ columns'
    → (let frame : Frame = record { parents = parents; children = children; stages = stages; columns = columns } in frame)
    ≡ (let frame : Frame = record { parents = parents'; children = children'; stages = stages'; columns = columns' } in frame)
same_frame p k s c = λ i. record { parents = p i; children = k i; stages = s i; columns = c i }

pub columns_read : (frame : Frame) (n s : ℕ) (columns : List ColumnBounds) → n < length frame.stages → s ≡ get_or frame.stages n 0 → get_or frame.columns s [] ≡ columns → columns ≡ columns_in frame n
columns_read frame n s columns below is at =
    sym at ∙ ap (λ k. get_or frame.columns k []) is
    ∙ sym (ap (λ b. pick b (get_or frame.columns (get_or frame.stages n 0) []) []) (lt-ltb n (length frame.stages) below))
