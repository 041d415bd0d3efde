-- The sums of many places at once, and when they are those of the walks by place.
use Rattle.std.specs.Prelude.{◌≡◌, ℕ, ◌<◌, ◌-◌, Bool, true, not, ◌&&◌, eqb, List, [], ◌∷◌, map, length, Vec, Result, Ok, Err}
use Rattle.std.specs.Prelude.{⊤, slice_index_or}
use Rattle.std.specs.declared.alloc.Global.{Global}
use Rattle.rationals.specs.Replies.{Reply, IsReply, reply_by}
use Rattle.rationals.specs.Replies.Reply.{Says, Silent}
use Rattle.rationals.specs.Rational.{ℚ, zero_ℚ, at_most}
use Rattle.rationals.specs.Passes.{Operation, IsNarrow, mul_walk, less_product_walk, add_product_walk, then_walk}
use Rattle.rationals.specs.Sparse.{Entry, coefficient}
use Rattle.rationals.specs.Choices.{pick}
use Rattle.scen_defs.specs.declared.program.Column.{Column}
use Rattle.scen_defs.specs.Lists.{passes_at}
use Rattle.scen_defs.specs.Program.{View, Program, is_live, view_of}
use Rattle.scen_defs.specs.Flat.{up, home}
use Rattle.scen_model.specs.declared.stop.Stop.{Stop}
use Rattle.scen_model.specs.declared.stop.Stop.TheVariants.{Decided as DecidedStop}
use Rattle.scen_model.specs.declared.ended.Ended.{Ended}
use Rattle.scen_model.specs.declared.ended.Ended.TheVariants.{Decided, Walk, Memory}
use Rattle.rationals.specs.Forms.{product_from}
use Rattle.scen_model.specs.Walks.{cost_walk, stopping, test, total_walk, worth_step, fold_walk}

-- at each place that passes the test, the walk comes from the old number to the new one
abbrev pub Moves : {P : Type 0} → (ℕ → Bool) → (ℕ → ℚ → Result ℚ P) → List ℚ → List ℚ → Type 0
Moves test walk old new =
    (n : ℕ) (d : ℚ) → n < length old → test n ≡ true → IsNarrow (slice_index_or old n d)
    → (walk n (slice_index_or old n d) ≡ Ok (slice_index_or new n d)) × IsNarrow (slice_index_or new n d)

abbrev pub everywhere : ℕ → Bool
everywhere n = true

-- the number at each place is the total of the node of that number
abbrev pub AreTotals : View → List ℚ → Type 0
AreTotals v totals = (n : ℕ) (d : ℚ) → n < length totals → total_walk v n ≡ Ok (slice_index_or totals n d)

-- s and, for a node with this total, these costs and values, the total times the cost of the values
abbrev pub cost_step_with : ℚ → List Entry → (ℕ → ℚ) → ℚ → Result ℚ Operation
cost_step_with total costs x s = then_walk (product_from x zero_ℚ costs) (λ c. add_product_walk s total c)

abbrev pub costs_with : View → List ℚ → (ℕ → ℕ → ℚ) → Result ℚ Operation
costs_with v totals x = fold_walk (λ s n. cost_step_with (slice_index_or totals n zero_ℚ) (v.cost n) (x n) s) zero_ℚ v.live

-- the test that a cost is below 0
abbrev pub falls_walk : View → (ℕ → ℕ → ℚ) → Result (Unit {0}) Stop
falls_walk v d = then_walk (stopping (cost_walk v d)) (λ c. test (not (at_most zero_ℚ c)))

-- ---- the columns of each stage, and the numbers of columns at nodes
abbrev pub lists_in : {X : Type 0} → List (Vec X Global) → List (List X)
lists_in {X} lists = map (λ (list : Vec X Global). list.items) lists

-- whether column j is of stage s
abbrev pub is_of : List Column → ℕ → ℕ → Bool
is_of columns s j = passes_at (λ (c : Column). eqb c.stage s) j columns

-- each column is of the stage at its place
abbrev pub AreStages : List Column → List ℕ → Type 0
AreStages columns stages = (j : ℕ) → j < length stages → is_of columns (slice_index_or stages j 0) j ≡ true

-- a node so many stages up on n's path, which is of stage s
pub record IsOnPath (v : View) (n s at : ℕ) : Type 0 where
  pub above : at ≡ up v (v.stage n - s) n
  pub stage : v.stage at ≡ s

-- of each column of stage s the seat: a place of the stage's list, where the column itself stands
pub record IsSeated (own : List (List ℕ)) (seats : List ℕ) (s j : ℕ) : Type 0 where
  pub within : slice_index_or seats j 0 < length (slice_index_or own s [])
  pub there : slice_index_or (slice_index_or own s []) (slice_index_or seats j 0) 0 ≡ j

abbrev pub AreSeated : List Column → List (List ℕ) → List ℕ → Type 0
AreSeated columns own seats = (s j : ℕ) → is_of columns s j ≡ true → IsSeated own seats s j

-- two columns of one stage have different seats
abbrev pub AreApart : List Column → List ℕ → Type 0
AreApart columns seats =
    (s i j : ℕ) → is_of columns s i ≡ true → is_of columns s j ≡ true
    → slice_index_or seats i 0 ≡ slice_index_or seats j 0 → i ≡ j

-- the number at a seat of node k; 0 where there is none
abbrev pub seat_number : List (List ℚ) → ℕ → ℕ → ℚ
seat_number numbers k seat = slice_index_or (slice_index_or numbers k []) seat zero_ℚ

-- the number of column j at node k, which stands in the node's list at the column's seat
abbrev pub column_number : List (List ℚ) → List ℕ → ℕ → ℕ → ℚ
column_number numbers seats k j = seat_number numbers k (slice_index_or seats j 0)

-- a product is taken away from the number at a place, and all others stay
abbrev pub LessAt : ℕ → ℚ → ℚ → List ℚ → List ℚ → Type 0
LessAt place value y old new =
    (i : ℕ) → IsNarrow (slice_index_or old i zero_ℚ)
    → (pick (eqb place i) (less_product_walk (slice_index_or old i zero_ℚ) value y) (Ok (slice_index_or old i zero_ℚ))
    ≡ Ok (slice_index_or new i zero_ℚ)) × IsNarrow (slice_index_or new i zero_ℚ)

-- the same of the number at a seat of a node
abbrev pub LessIn : ℕ → ℕ → ℚ → ℚ → List (List ℚ) → List (List ℚ) → Type 0
LessIn node seat value y old new =
    (k i : ℕ) → IsNarrow (seat_number old k i)
    → (pick (eqb node k && eqb seat i) (less_product_walk (seat_number old k i) value y) (Ok (seat_number old k i))
    ≡ Ok (seat_number new k i)) × IsNarrow (seat_number new k i)

-- for each node k and each column j of its stage, the walk comes from the old number to the new one
abbrev pub AllMove : {P : Type 0} → View → List Column → List ℕ → (ℕ → ℕ → ℚ → Result ℚ P) → List (List ℚ) → List (List ℚ) → Type 0
AllMove v columns seats walk old new =
    (k j : ℕ) → is_of columns (v.stage k) j ≡ true → IsNarrow (column_number old seats k j)
    → (walk k j (column_number old seats k j) ≡ Ok (column_number new seats k j)) × IsNarrow (column_number new seats k j)

-- for each live node k and each column j of its stage, the number is the walk's
abbrev pub AreAll : {P : Type 0} → Program → List ℕ → (ℕ → ℕ → Result ℚ P) → List (List ℚ) → Type 0
AreAll p seats walk numbers =
    (k j : ℕ) → passes_at is_live k p.nodes ≡ true → is_of p.columns ((view_of p).stage k) j ≡ true
    → (walk k j ≡ Ok (column_number numbers seats k j)) × IsNarrow (column_number numbers seats k j)

-- the number at each place is the total times the cost of the column at that place
abbrev pub ArePriced : ℚ → List Entry → List ℕ → List ℚ → Type 0
ArePriced total costs own numbers =
    (i : ℕ) → i < length numbers
    → (mul_walk total (coefficient costs (slice_index_or own i 0)) ≡ Ok (slice_index_or numbers i zero_ℚ))
    × IsNarrow (slice_index_or numbers i zero_ℚ)

-- the same of a list that has a number for each column of node k's stage
pub record IsPriced (v : View) (costs : ℕ → List Entry) (totals : List ℚ) (own : List (List ℕ)) (k : ℕ) (numbers : List ℚ) : Type 0 where
  pub long : length numbers ≡ length (slice_index_or own (v.stage k) [])
  pub priced : ArePriced (slice_index_or totals k zero_ℚ) (costs k) (slice_index_or own (v.stage k) []) numbers

-- the same of the list of each live node before a place
abbrev pub AllPriced : Program → (ℕ → List Entry) → List ℚ → List (List ℕ) → ℕ → List (List ℚ) → Type 0
AllPriced p costs totals own place numbers =
    (k : ℕ) → k < place → passes_at is_live k p.nodes ≡ true → IsPriced (view_of p) costs totals own k (slice_index_or numbers k [])

-- the walk where k is the node of n's path that decides column j; else the number stays
abbrev pub if_home : {P : Type 0} → View → ℕ → ℕ → ℕ → ℚ → Result ℚ P → Result ℚ P
if_home v n k j s walk = pick (eqb (home v n j) k) walk (Ok s)

-- s less an entry times y, where the entry stands in column j
abbrev pub entry_from : Entry → ℚ → ℕ → ℚ → Result ℚ Operation
entry_from e y j s = pick (eqb e.column j) (less_product_walk s e.value y) (Ok s)

-- the same for entries in order
abbrev pub entries_from : ℚ → ℕ → ℚ → List Entry → Result ℚ Operation
entries_from y j s [] = Ok s
entries_from y j s (e ∷ es) = then_walk (entry_from e y j s) (λ t. entries_from y j t es)

-- s and, column by column of the node's stage, the column's number times the bound that it uses
abbrev pub columns_with : View → (ℕ → ℚ) → ℚ → ℕ → Result ℚ Stop
columns_with v number s m = fold_walk (λ t j. worth_step (v.lower j) (v.upper j) (number j) t) s (v.columns (v.stage m))

-- the walk step by step gives the answer, or memory is wanting
abbrev pub IsLeft : Ended → Type 0
IsLeft Decided = ⊥
IsLeft Walk = ⊤
IsLeft Memory = ⊤

-- what an early end of a pass says: that the walk is decided; nothing where it is left to the walk itself
abbrev pub ended_says : {X : Type 0} → Ended → Reply (Result X Stop)
ended_says Decided = Says (Err DecidedStop)
ended_says Walk = Silent
ended_says Memory = Silent

-- what a pass says of the walk that it follows: its value, or that it is decided; nothing where it is left to the walk itself
abbrev pub Finishes : {X : Type 0} → Result X Stop → Result X Ended → Type 0
Finishes walk result = IsReply walk (reply_by (λ x. x) ended_says result)
