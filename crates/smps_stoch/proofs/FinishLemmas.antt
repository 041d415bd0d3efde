-- Sums of probabilities, and lists of cases.
use Rattle.std.proofs.Common.{◌≡◌, ◌≢◌, ◌∙◌, ◌+◌, ◌<◌, ◌⊎◌, ◌∷◌, ◌++◌, [], inl, inr, refl, sym, ap, arith}
use Rattle.std.proofs.Common.{ℕ, zero, suc, pos, nat_eq, Bool, true, false, if◌then◌else◌, Some, None, Ok}
use Rattle.std.proofs.Common.{List, Vec, length, map, get_or, drop, append_assoc, append-nil}
use Rattle.std.proofs.Common.{get_or-set_same, get_or-set_other}
use Rattle.std.proofs.Math.ListN.{set, length-set}
use Rattle.std.proofs.Math.Seq.{drop-cons}
use Rattle.std.proofs.lemmas.Bool.Decides.{eqb_tells}
use Rattle.std.proofs.lemmas.List.{map-append, get_or-map}
use Rattle.std.specs.declared.alloc.Global.{Global}
use Rattle.rationals.specs.Rational.{ℚ, zero_ℚ, ◌÷◌, reduce, smaller, divides, nat_divides}
use Rattle.rationals.specs.Passes.{too_wide, unless, fitted}
use Rattle.stoch_defs.specs.declared.heads.BranchHead.{BranchHead}
use Rattle.stoch_defs.specs.declared.heads.CaseHead.{CaseHead}
use Rattle.stoch_defs.specs.Finish.{is_near, stated_cases, with_parts, own, own_from, blocks_from, branch_with, branches_with}
use Rattle.stoch_defs.specs.declared.stoch.Case.{Case as CaseOf}
use Rattle.stoch_defs.specs.Random.{Block, Branch, Case, case_content}
use Rattle.stoch_defs.specs.Stated.{Node}
use Rattle.smps_stoch.specs.View.{cases_in}

near_zero : is_near zero_ℚ ≡ false
unfolding ◌÷◌ reduce smaller divides nat_divides zero_ℚ
near_zero = refl

clash : true ≡ false → ⊥
clash e = cc

pub near_is_some : (total : ℚ) → is_near total ≡ true → total ≢ zero_ℚ
near_is_some total near is = clash (sym near ∙ ap is_near is ∙ near_zero)

least_narrow : too_wide (pos 999 ÷ 1000) ≡ false
unfolding ◌÷◌ reduce smaller divides nat_divides
least_narrow = refl

greatest_narrow : too_wide (pos 1001 ÷ 1000) ≡ false
unfolding ◌÷◌ reduce smaller divides nat_divides
greatest_narrow = refl

no_some : (value : ℚ) → Some value ≡ None → ⊥
no_some value e = cc

never : (value : ℚ) → too_wide value ≡ false → fitted value ≡ None → ⊥
never value narrow e = no_some value (ap (λ (b : Bool). unless b value) (sym narrow) ∙ e)

pub least_fits : fitted (pos 999 ÷ 1000) ≡ None → ⊥
least_fits = never (pos 999 ÷ 1000) least_narrow

pub greatest_fits : fitted (pos 1001 ÷ 1000) ≡ None → ⊥
greatest_fits = never (pos 1001 ÷ 1000) greatest_narrow

-- ---- ends of loops

pub ended : {A : Type 0} (left : List A) (count : ℕ) → count ≡ length left → count ≡ 0 → left ≡ []
ended [] count is none = refl
ended (x ∷ left) count is none = absurd (omega (arith, is, none))

pub whole : {A : Type 0} (done rest all : List A) → rest ≡ [] → done ++ rest ≡ all → done ≡ all
whole done rest all gone is = sym (append-nil done) ∙ ap (λ (more : List _). done ++ more) (sym gone) ∙ is

pub no_stated : (heads : List CaseHead) → stated_cases heads [] ≡ []
no_stated [] = refl
no_stated (head ∷ heads) = refl

pub no_parts : (parts : List ℚ) → with_parts parts [] ≡ []
no_parts [] = refl
no_parts (part ∷ parts) = refl

pub no_own : (block : ℕ) (heads : List CaseHead) → own block heads [] ≡ []
no_own block [] = refl
no_own block (head ∷ heads) = refl

pub no_more_blocks : (done : List Block) (stages : List ℕ) → blocks_from done stages [] ≡ Ok done
no_more_blocks done [] = refl
no_more_blocks done (stage ∷ stages) = refl

pub no_branches : (names : List (List ℕ)) (heads : List BranchHead) (parts : List ℚ) → branches_with names heads [] parts ≡ []
no_branches [] heads parts = refl
no_branches (name ∷ names) [] parts = refl
no_branches (name ∷ names) (head ∷ heads) parts = refl

pub no_branch_names : (heads : List BranchHead) (nodes : List Node) (parts : List ℚ) → branches_with [] heads nodes parts ≡ []
no_branch_names heads nodes parts = refl

pub no_branch_heads : (names : List (List ℕ)) (nodes : List Node) (parts : List ℚ) → branches_with names [] nodes parts ≡ []
no_branch_heads [] nodes parts = refl
no_branch_heads (name ∷ names) nodes parts = refl

pub no_branch_parts : (names : List (List ℕ)) (heads : List BranchHead) (nodes : List Node) → branches_with names heads nodes [] ≡ []
no_branch_parts [] heads nodes = refl
no_branch_parts (name ∷ names) [] nodes = refl
no_branch_parts (name ∷ names) (head ∷ heads) [] = refl
no_branch_parts (name ∷ names) (head ∷ heads) (node ∷ nodes) = refl

-- ---- lists by number

pub all_own : (all : List (List Case)) (start : ℕ) (heads : List CaseHead) (cases : List Case) (stages : List ℕ) → length all ≡ length stages →
    ((n : ℕ) → n < length stages → get_or all n [] ≡ own (start + n) heads cases) → all ≡ own_from start heads cases stages
all_own [] start heads cases [] same each = refl
all_own [] start heads cases (stage ∷ stages) same each = absurd (omega (arith, same))
all_own (first ∷ all) start heads cases [] same each = absurd (omega (arith, same))
all_own (first ∷ all) start heads cases (stage ∷ stages) same each =
    let at : start + 0 ≡ start = omega arith in
    let some : 0 < length (stage ∷ stages) = omega arith in
    let rest : length all ≡ length stages = omega (arith, same) in
    let front : first ≡ own start heads cases = each 0 some ∙ ap (λ (n : ℕ). own n heads cases) at in
    ap (λ (c : List Case). c ∷ all) front
    ∙ ap (λ (more : List (List Case)). own start heads cases ∷ more) (all_own all (start + 1) heads cases stages rest (λ n below.
    let next : suc n < length (stage ∷ stages) = omega (arith, below) in
    let further : start + suc n ≡ (start + 1) + n = omega arith in
    each (suc n) next ∙ ap (λ (m : ℕ). own m heads cases) further))

-- a case more, of its block alone
pub own_step : (n : ℕ) (heads others : List CaseHead) (head : CaseHead) (lefts left got new : List Case) (case : Case) → heads ≡ head ∷ others → lefts ≡ case ∷ left →
    new ≡ got ++ (if nat_eq head.block n then case ∷ [] else []) → new ++ own n others left ≡ got ++ own n heads lefts
own_step n heads others head lefts left got new case heads_are lefts_are is =
    ap (λ (front : List Case). front ++ own n others left) is ∙ append_assoc got (if nat_eq head.block n then case ∷ [] else []) (own n others left)
    ∙ ap (λ (rest : List Case). got ++ rest) (pulled (nat_eq head.block n) case (own n others left))
    ∙ ap (λ (hs : List CaseHead). got ++ own n hs (case ∷ left)) (sym heads_are) ∙ ap (λ (cs : List Case). got ++ own n heads cs) (sym lefts_are)
  where
    pulled : (b : Bool) (case : Case) (rest : List Case) → (if b then case ∷ [] else []) ++ rest ≡ (if b then case ∷ rest else rest)
    pulled true case rest = refl
    pulled false case rest = refl

-- a further list is empty
pub further_empty : (old new : List (List Case)) (n : ℕ) → new ≡ old ++ [] ∷ [] → get_or old n [] ≡ [] → get_or new n [] ≡ []
further_empty old new n is empty = ap (λ (all : List (List Case)). get_or all n []) is ∙ at old n empty
  where
    at : (old : List (List Case)) (n : ℕ) → get_or old n [] ≡ [] → get_or (old ++ [] ∷ []) n [] ≡ []
    at [] zero empty = refl
    at [] (suc n) empty = refl
    at (first ∷ old) zero empty = empty
    at (first ∷ old) (suc n) empty = at old n empty

-- a case goes to its block
at_block : (old : List (Vec CaseOf Global)) (new own_old : Vec CaseOf Global) (block n : ℕ) (case : CaseOf) → block < length old → n < length old → own_old ≡ get_or old block own_old → new.items ≡ own_old.items ++ case ∷ [] → block ≡ n →
    cases_in (get_or (set old block new) n own_old) ≡ cases_in (get_or old n own_old) ++ case_content case ∷ []
at_block old new own_old block n case block_in n_in at is same =
    ap (λ (k : ℕ). cases_in (get_or (set old block new) k own_old)) (sym same) ∙ ap cases_in (get_or-set_same old block new own_old block_in)
    ∙ ap (map case_content) is ∙ map-append case_content own_old.items (case ∷ [])
    ∙ ap (λ (v : Vec CaseOf Global). cases_in v ++ case_content case ∷ []) at ∙ ap (λ (k : ℕ). cases_in (get_or old k own_old) ++ case_content case ∷ []) same

at_others : (old : List (Vec CaseOf Global)) (new own_old : Vec CaseOf Global) (block n : ℕ) → n ≢ block → cases_in (get_or (set old block new) n own_old) ≡ cases_in (get_or old n own_old) ++ []
at_others old new own_old block n apart = ap cases_in (get_or-set_other old block n new own_old apart) ∙ sym (append-nil (cases_in (get_or old n own_old)))

pub goes_to : (old : List (Vec CaseOf Global)) (new own_old : Vec CaseOf Global) (block : ℕ) (case : CaseOf) → block < length old → own_old ≡ get_or old block own_old → new.items ≡ own_old.items ++ case ∷ [] → (n : ℕ) → n < length old →
    get_or (map cases_in (set old block new)) n [] ≡ get_or (map cases_in old) n [] ++ (if nat_eq block n then case_content case ∷ [] else [])
goes_to old new own_old block case block_in at is n n_in =
    let long : n < length (set old block new) = omega (arith, n_in, length-set old block new) in
    get_or-map cases_in (set old block new) n own_old [] long ∙ by (eqb_tells block n)
    ∙ ap (λ (front : List Case). front ++ (if nat_eq block n then case_content case ∷ [] else [])) (sym (get_or-map cases_in old n own_old [] n_in))
  where
    by : (((nat_eq block n ≡ true) × (block ≡ n)) ⊎ ((nat_eq block n ≡ false) × (block ≢ n))) → cases_in (get_or (set old block new) n own_old) ≡ cases_in (get_or old n own_old) ++ (if nat_eq block n then case_content case ∷ [] else [])
    by (inl h) = at_block old new own_old block n case block_in n_in at is h.1 ∙ ap (λ b. cases_in (get_or old n own_old) ++ (if b then case_content case ∷ [] else [])) (sym h.0)
    by (inr h) = at_others old new own_old block n (λ e. h.1 (sym e)) ∙ ap (λ b. cases_in (get_or old n own_old) ++ (if b then case_content case ∷ [] else [])) (sym h.0)

-- one more scenario
pub branches_step : (names : List (List ℕ)) (number : ℕ) (old_heads heads : List BranchHead) (head : BranchHead)
    (old_parts parts : List ℚ) (part : ℚ) (old_nodes nodes : List Node) (node : Node) (done new all : List Branch) → number < length names →
    old_heads ≡ head ∷ heads → old_parts ≡ part ∷ parts → old_nodes ≡ node ∷ nodes →
    new ≡ done ++ branch_with (get_or names number []) head node part ∷ [] →
    done ++ branches_with (drop number names) old_heads old_nodes old_parts ≡ all →
    new ++ branches_with (drop (number + 1) names) heads nodes parts ≡ all
branches_step names number old_heads heads head old_parts parts part old_nodes nodes node done new all within h p n is before =
    let next : suc number ≡ number + 1 = omega arith in
    let front : drop number names ≡ get_or names number [] ∷ drop (number + 1) names =
    drop-cons names number [] within ∙ ap (λ (k : ℕ). get_or names number [] ∷ drop k names) next in
    let branch : Branch = branch_with (get_or names number []) head node part in
    let further : List Branch = branches_with (drop (number + 1) names) heads nodes parts in
    ap (λ (branches : List Branch). branches ++ further) is ∙ append_assoc done (branch ∷ []) further
    ∙ ap (λ (left : List (List ℕ)). done ++ branches_with left (head ∷ heads) (node ∷ nodes) (part ∷ parts)) (sym front)
    ∙ ap (λ (hs : List BranchHead). done ++ branches_with (drop number names) hs (node ∷ nodes) (part ∷ parts)) (sym h)
    ∙ ap (λ (ns : List Node). done ++ branches_with (drop number names) old_heads ns (part ∷ parts)) (sym n)
    ∙ ap (λ (ps : List ℚ). done ++ branches_with (drop number names) old_heads old_nodes ps) (sym p) ∙ before
