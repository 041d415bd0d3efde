-- What the code reads of a program's nodes.
use Rattle.std.proofs.Common.{◌≡◌, ℕ, zero, suc, ◌+◌, ◌<◌, ◌≤◌, Bool, true, false, List, [], ◌∷◌, Option, Some, None, length, drop, get_or, refl, sym, ap, ◌∙◌, arith, add-one, drop-cons}
use Rattle.scen_defs.specs.declared.program.Node.{Node as NodeOf}
use Rattle.scen_defs.specs.declared.program.Column.{Column}
use Rattle.scen_defs.specs.Lists.{passes_at}
use Rattle.scen_defs.specs.Program.{is_live, node_content, place_content, nodes_content, no_node, node_at, column_at}

-- the member that is read, and what follows it
pub drop_read : {A : Type 0} (xs : List A) (i : ℕ) (x : A) → i < length xs → x ≡ get_or xs i x → drop i xs ≡ x ∷ drop (i + 1) xs
drop_read xs i x h e = rw (add-one i) (drop-cons xs i x h ∙ ap (λ d. d ∷ drop (suc i) xs) (sym e))

pub nodes_read : (nodes : List (Option NodeOf)) (i : ℕ) (place : Option NodeOf) → i < length nodes → place ≡ get_or nodes i place
    → nodes_content (drop i nodes) ≡ place_content place ∷ nodes_content (drop (i + 1) nodes)
nodes_read nodes i place h e = ap nodes_content (drop_read nodes i place h e)

from_front : (nodes rest : List (Option NodeOf)) (i : ℕ) (n : NodeOf) → drop i nodes ≡ Some n ∷ rest → node_at (nodes_content nodes) i ≡ node_content n
from_front [] rest zero n e = absurd (cc)
from_front [] rest (suc i) n e = absurd (cc)
from_front (None ∷ nodes) rest zero n e = absurd (cc)
from_front (Some m ∷ nodes) rest zero n e = let p : m ≡ n = cc in ap node_content p
from_front (None ∷ nodes) rest (suc i) n e = from_front nodes rest i n e
from_front (Some m ∷ nodes) rest (suc i) n e = from_front nodes rest i n e

from_dead : (nodes rest : List (Option NodeOf)) (i : ℕ) → drop i nodes ≡ None ∷ rest → node_at (nodes_content nodes) i ≡ no_node
from_dead [] rest zero e = refl
from_dead [] rest (suc i) e = refl
from_dead (None ∷ nodes) rest zero e = refl
from_dead (Some m ∷ nodes) rest zero e = absurd (cc)
from_dead (None ∷ nodes) rest (suc i) e = from_dead nodes rest i e
from_dead (Some m ∷ nodes) rest (suc i) e = from_dead nodes rest i e

-- no node is live there
pub dead_read : (nodes : List (Option NodeOf)) (i : ℕ) → i < length nodes → None ≡ get_or nodes i None → node_at (nodes_content nodes) i ≡ no_node
dead_read nodes i h e = from_dead nodes (drop (i + 1) nodes) i (drop_read nodes i None h e)

pub past_read : (nodes : List (Option NodeOf)) (i : ℕ) → length nodes ≤ i → node_at (nodes_content nodes) i ≡ no_node
past_read [] i h = refl
past_read (place ∷ nodes) zero h = absurd (omega arith)
past_read (None ∷ nodes) (suc i) h = past_read nodes i (omega arith)
past_read (Some m ∷ nodes) (suc i) h = past_read nodes i (omega arith)

-- the node that is read is the node of that number
pub node_read : (nodes : List (Option NodeOf)) (i : ℕ) (n : NodeOf) → i < length nodes → Some n ≡ get_or nodes i (Some n) → node_at (nodes_content nodes) i ≡ node_content n
node_read nodes i n h e = from_front nodes (drop (i + 1) nodes) i n (drop_read nodes i (Some n) h e)

-- ---- whether a node is live
live_front : (nodes rest : List (Option NodeOf)) (i : ℕ) (n : NodeOf) → drop i nodes ≡ Some n ∷ rest → passes_at is_live i (nodes_content nodes) ≡ true
live_front [] rest zero n e = absurd (cc)
live_front [] rest (suc i) n e = absurd (cc)
live_front (None ∷ nodes) rest zero n e = absurd (cc)
live_front (Some m ∷ nodes) rest zero n e = refl
live_front (None ∷ nodes) rest (suc i) n e = live_front nodes rest i n e
live_front (Some m ∷ nodes) rest (suc i) n e = live_front nodes rest i n e

pub live_read : (nodes : List (Option NodeOf)) (i : ℕ) (n : NodeOf) → i < length nodes → Some n ≡ get_or nodes i (Some n) → passes_at is_live i (nodes_content nodes) ≡ true
live_read nodes i n h e = live_front nodes (drop (i + 1) nodes) i n (drop_read nodes i (Some n) h e)

not_live_front : (nodes rest : List (Option NodeOf)) (i : ℕ) → drop i nodes ≡ None ∷ rest → passes_at is_live i (nodes_content nodes) ≡ false
not_live_front [] rest zero e = refl
not_live_front [] rest (suc i) e = refl
not_live_front (None ∷ nodes) rest zero e = refl
not_live_front (Some m ∷ nodes) rest zero e = absurd (cc)
not_live_front (None ∷ nodes) rest (suc i) e = not_live_front nodes rest i e
not_live_front (Some m ∷ nodes) rest (suc i) e = not_live_front nodes rest i e

pub not_live_read : (nodes : List (Option NodeOf)) (i : ℕ) → i < length nodes → None ≡ get_or nodes i None → passes_at is_live i (nodes_content nodes) ≡ false
not_live_read nodes i h e = not_live_front nodes (drop (i + 1) nodes) i (drop_read nodes i None h e)

pub not_live_past : (nodes : List (Option NodeOf)) (i : ℕ) → length nodes ≤ i → passes_at is_live i (nodes_content nodes) ≡ false
not_live_past [] i h = refl
not_live_past (place ∷ nodes) zero h = absurd (omega arith)
not_live_past (None ∷ nodes) (suc i) h = not_live_past nodes i (omega arith)
not_live_past (Some m ∷ nodes) (suc i) h = not_live_past nodes i (omega arith)

-- ---- a member that passes a test
passes_front : {A : Type 0} (test : A → Bool) (xs rest : List A) (i : ℕ) (x : A) → drop i xs ≡ x ∷ rest → passes_at test i xs ≡ test x
passes_front test [] rest zero x e = absurd (cc)
passes_front test [] rest (suc i) x e = absurd (cc)
passes_front test (y ∷ xs) rest zero x e = let d : y ≡ x = cc in ap test d
passes_front test (y ∷ xs) rest (suc i) x e = passes_front test xs rest i x e

pub passes_read : {A : Type 0} (test : A → Bool) (xs : List A) (i : ℕ) (x : A) → i < length xs → x ≡ get_or xs i x → passes_at test i xs ≡ test x
passes_read test xs i x h e = passes_front test xs (drop (i + 1) xs) i x (drop_read xs i x h e)

pub passes_past : {A : Type 0} (test : A → Bool) (xs : List A) (i : ℕ) → length xs ≤ i → passes_at test i xs ≡ false
passes_past test [] i h = refl
passes_past test (y ∷ xs) zero h = absurd (omega arith)
passes_past test (y ∷ xs) (suc i) h = passes_past test xs i (omega arith)

-- the column that is read is the column of that number
pub column_read : (columns : List Column) (i : ℕ) (c : Column) → i < length columns → c ≡ get_or columns i c → column_at columns i ≡ c
column_read [] i c h e = absurd (omega arith)
column_read (d ∷ columns) zero c h e = sym e
column_read (d ∷ columns) (suc i) c h e = column_read columns i c (omega arith) e

pub column_past : (columns : List Column) (i : ℕ) → length columns ≤ i → (column_at columns i).stage ≡ 0
column_past [] i h = refl
column_past (d ∷ columns) zero h = absurd (omega arith)
column_past (d ∷ columns) (suc i) h = column_past columns i (omega arith)
