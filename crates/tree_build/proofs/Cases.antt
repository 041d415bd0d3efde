-- What is read of a stoch file: probabilities above 0, entries within the triangle, and parents that are there.
use Rattle.std.proofs.Common.{◌≡◌, ◌∙◌, ap, sym, refl, subst, ℕ, zero, suc, ◌+◌, ◌<◌, pos, Bool, true, false, not, ◌&&◌, List, [], ◌∷◌, ◌++◌, map, length, get_or, nat_eq, arith, ◌*ℤ◌, ◌≤ℤ◌, None, ◌⊎◌, inl, inr, Result, Ok, Err, if◌then◌else◌}
use Rattle.std.specs.List.{AllByRecursion}
use Rattle.std.proofs.lemmas.Int.{ints}
use Rattle.std.proofs.lemmas.List.{length_push, length-map}
use Rattle.rationals.specs.Rational.{ℚ, zero_ℚ, one_ℚ, inv_ℚ, ◌+ℚ◌, ◌*ℚ◌, ◌/ℚ◌, ◌≤ℚ◌, ◌<ℚ◌, ◌÷◌, at_most, at_most_true, by_facts, by_linear, terms, lt_le_ℚ, lt_by, ne_of_gt_ℚ, div_mul_ℚ, mul_inv_ℚ, lt_of_not_le_ℚ, frac_le_to, zero_mul_ℚ, add_zero_ℚ, zero_add_ℚ, add_assoc_ℚ, add_mul_ℚ}
use Rattle.rationals.specs.Ring.Facts.{end, by_times}
use Rattle.rationals.specs.Ring.Given.{nothing, fact}
use Rattle.rationals.specs.Passes.{add_walk, div_walk}
use Rattle.rationals.specs.Sums.{sum_ℚ, sum-append}
use Rattle.smps_words.specs.Line.{TextLine, reading_of}
use Rattle.refusals.specs.declared.cause.Cause.{Cause}
use Rattle.refusals.specs.declared.cause.Cause.TheVariants as cause
use Rattle.refusals.specs.declared.cause.Refusal.{Refusal}
use Rattle.refusals.specs.Results.{on_line}
use Rattle.core_defs.specs.declared.program.Core.{Core}
use Rattle.reader_defs.specs.Reader.{read_from}
use Rattle.reader_defs.proofs.Taken.{bind_ok, else_ok, ok_is}
use Rattle.time_defs.specs.Means.{Stages}
use Rattle.stoch_defs.specs.declared.section.StochSection.{StochSection}
use Rattle.stoch_defs.specs.declared.section.StochSection.TheVariants as sections
use Rattle.stoch_defs.specs.declared.heads.CaseHead.{CaseHead}
use Rattle.stoch_defs.specs.declared.heads.BranchHead.{BranchHead}
use Rattle.time_defs.specs.Step.{at_line}
use Rattle.stoch_defs.specs.File.{stoch_file}
use Rattle.stoch_defs.specs.Finish as finish
use Rattle.stoch_defs.specs.Finish.{sum_from, is_near, divided_from, shared, case_with, stated_cases, own, own_from, chance_of, with_parts, stated_branch, branch_with, branches_with, is_empty, random_of, blocks_from}
use Rattle.stoch_defs.specs.Random.{Sets, Case, Block, Branch, Random}
use Rattle.stoch_defs.specs.Random.Random.{Blocks, Branches}
use Rattle.stoch_defs.specs.Section.{is_end}
use Rattle.stoch_defs.specs.Stated.{Stated, Node, nothing_stated}
use Rattle.stoch_defs.specs.Step.{or_passes, header_line, data_line}
use Rattle.stoch_defs.proofs.StepParts.{sum_is, quotient_is}
use Rattle.scen_defs.specs.Lists.{Each}
use Rattle.scen_defs.specs.Valid.{AreNames}
use Rattle.smps_words.proofs.FieldLemmas.{HasFields, text_fields}
use Rattle.tree_build.proofs.NameLaws.{numbered_names, branch_name}
use Rattle.build_defs.specs.Laws.{IsAbove, IsBelow, AreAncestral}
use Rattle.build_defs.specs.Scenarios.{no_branch}
use Rattle.build_defs.proofs.EachLemmas.{each_append}
use Rattle.tree_build.specs.Law.{AreTimely, IsCase, IsBlock, IsBranch, AreCases, ReadCasesHold}
use Rattle.tree_build.proofs.Tables.{no_node, AreCounted, AreInOrder, IsTimelyNode, IsLikely, IsLikelyBranch, Holds, nothing_holds, line_holds}

-- ---- shares

quotient_above : (a t : ℚ) → zero_ℚ <ℚ a → zero_ℚ <ℚ t → zero_ℚ <ℚ a /ℚ t
quotient_above a t above positive =
    let back : a /ℚ t *ℚ t ≡ a = div_mul_ℚ a t (ne_of_gt_ℚ positive) in
    let low : zero_ℚ ≤ℚ t = lt_le_ℚ positive in
    lt_by above (λ k. subst (λ (x : ℚ). x ≤ℚ zero_ℚ) back (by_facts (a /ℚ t ∷ t ∷ []) (by_times low k end) (search terms depth 40) tt))

least_above : zero_ℚ <ℚ pos 999 ÷ 1000
unfolding zero_ℚ
least_above = lt_of_not_le_ℚ (λ h. let k : (pos 999 *ℤ pos 1) ≤ℤ (pos 0 *ℤ pos 1000) = frac_le_to (pos 999) (pos 0) 1000 1 (omega arith) (omega arith) h in omega (arith, ints))

above_by : (low total : ℚ) → zero_ℚ <ℚ low → low ≤ℚ total → zero_ℚ <ℚ total
above_by low total above h = lt_by above (λ k. by_linear (low ∷ total ∷ []) (fact h (fact k nothing)) (search terms depth 40) tt)

-- a sum near 1 is above 0
near_above : (total : ℚ) → is_near total ≡ true → zero_ℚ <ℚ total
near_above total near = above_by (pos 999 ÷ 1000) total least_above (at_most_true (pos 999 ÷ 1000) total (first (at_most (pos 999 ÷ 1000) total) (at_most total (pos 1001 ÷ 1000)) near))
  where
    first : (a b : Bool) → (a && b) ≡ true → a ≡ true
    first true b e = refl
    first false b e = cc

divided_above : (total : ℚ) (done_ values parts : List ℚ) → zero_ℚ <ℚ total → Each IsAbove done_ → Each IsAbove values → divided_from total done_ values ≡ Ok parts → Each IsAbove parts
divided_above total done_ [] parts positive before all e = subst (Each IsAbove) (sym (ok_is done_ parts e)) before
divided_above total done_ (value ∷ values) parts positive before all e =
    let found = bind_ok (or_passes (div_walk value total)) (λ part. divided_from total (done_ ++ part ∷ []) values) parts e in
    let above = subst (λ (x : ℚ). zero_ℚ <ℚ x) (sym (quotient_is value total found.0 found.1)) (quotient_above value total all.0 positive) in
    divided_above total (done_ ++ found.0 ∷ []) values parts positive (each_append IsAbove done_ (found.0 ∷ []) before (above, tt)) all.1 found.2

divided_length : (total : ℚ) (done_ values parts : List ℚ) → divided_from total done_ values ≡ Ok parts → length parts ≡ length done_ + length values
divided_length total done_ [] parts e = let same = ap length (ok_is done_ parts e) in omega (arith, same)
divided_length total done_ (value ∷ values) parts e =
    let found = bind_ok (or_passes (div_walk value total)) (λ part. divided_from total (done_ ++ part ∷ []) values) parts e in
    omega (arith, divided_length total (done_ ++ found.0 ∷ []) values parts found.2, length_push done_ found.0)

abbrev itself : ℚ → ℚ
itself x = x

sum_is_total : (total : ℚ) (values : List ℚ) (x : ℚ) → sum_from total values ≡ Ok x → x ≡ total +ℚ sum_ℚ itself values
sum_is_total total [] x e = ok_is total x e ∙ sym (add_zero_ℚ total)
sum_is_total total (value ∷ values) x e =
    let found = bind_ok (or_passes (add_walk total value)) (λ more. sum_from more values) x e in
    sum_is_total found.0 values x found.2 ∙ ap (λ t. t +ℚ sum_ℚ itself values) (sum_is total value found.0 found.1) ∙ add_assoc_ℚ total value (sum_ℚ itself values)

divided_sum : (total : ℚ) (done_ values parts : List ℚ) → divided_from total done_ values ≡ Ok parts → sum_ℚ itself parts ≡ sum_ℚ itself done_ +ℚ sum_ℚ itself values /ℚ total
divided_sum total done_ [] parts e = ap (sum_ℚ itself) (ok_is done_ parts e) ∙ sym (ap (λ x. sum_ℚ itself done_ +ℚ x) (zero_mul_ℚ (inv_ℚ total)) ∙ add_zero_ℚ (sum_ℚ itself done_))
divided_sum total done_ (value ∷ values) parts e =
    let found = bind_ok (or_passes (div_walk value total)) (λ part. divided_from total (done_ ++ part ∷ []) values) parts e in
    divided_sum total (done_ ++ found.0 ∷ []) values parts found.2
    ∙ ap (λ x. x +ℚ sum_ℚ itself values /ℚ total) (sum-append itself done_ (found.0 ∷ []) ∙ ap (λ x. sum_ℚ itself done_ +ℚ x) (add_zero_ℚ found.0 ∙ quotient_is value total found.0 found.1))
    ∙ add_assoc_ℚ (sum_ℚ itself done_) (value /ℚ total) (sum_ℚ itself values /ℚ total)
    ∙ ap (λ x. sum_ℚ itself done_ +ℚ x) (sym (add_mul_ℚ value (sum_ℚ itself values) (inv_ℚ total)))

-- the shares: as many as there are values, above 0 where these are, and adding up to 1
record Shares (values parts : List ℚ) : Type 0 where
  same : length parts ≡ length values
  above : Each IsAbove values → Each IsAbove parts
  certain : sum_ℚ itself parts ≡ one_ℚ

shares : (values parts : List ℚ) → shared values ≡ Ok parts → Shares values parts
shares values parts e =
    let found = bind_ok (sum_from zero_ℚ values) (λ total. if not (is_near total) then Err (cause.ProbabilitySum total) else divided_from total [] values) parts e in
    let last = else_ok (not (is_near found.0)) (cause.ProbabilitySum found.0) (divided_from found.0 [] values) parts found.2 in
    let some = near_above found.0 (stands (is_near found.0) last.0) in
    let total : found.0 ≡ sum_ℚ itself values = sum_is_total zero_ℚ values found.0 found.1 ∙ zero_add_ℚ (sum_ℚ itself values) in
    record {
      same = omega (arith, divided_length found.0 [] values parts last.1);
      above = λ all. divided_above found.0 [] values parts some tt all last.1;
      certain = divided_sum found.0 [] values parts last.1 ∙ zero_add_ℚ (sum_ℚ itself values /ℚ found.0) ∙ ap (λ x. x /ℚ found.0) (sym total) ∙ mul_inv_ℚ found.0 (ne_of_gt_ℚ some);
    }
  where
    stands : (b : Bool) → not b ≡ false → b ≡ true
    stands true h = refl
    stands false h = cc

-- ---- blocks

cases_hold : (p : Stages) (heads : List CaseHead) (all : List Sets) → Each IsLikely heads → Each (AreTimely p) all → Each (IsCase p) (stated_cases heads all)
cases_hold p [] all likely timely = tt
cases_hold p (head ∷ heads) [] likely timely = tt
cases_hold p (head ∷ heads) (sets ∷ all) likely timely = (record { positive = likely.0; timely = timely.0 }, cases_hold p heads all likely.1 timely.1)

own_hold : (p : Stages) (block : ℕ) (heads : List CaseHead) (cases : List Case) → Each (IsCase p) cases → Each (IsCase p) (own block heads cases)
own_hold p block [] cases all = tt
own_hold p block (head ∷ heads) [] all = tt
own_hold p block (head ∷ heads) (case ∷ cases) all = go (nat_eq head.block block) (own_hold p block heads cases all.1)
  where
    go : (b : Bool) → Each (IsCase p) (own block heads cases) → Each (IsCase p) (if b then case ∷ own block heads cases else own block heads cases)
    go true rest = (all.0, rest)
    go false rest = rest

all_own : (p : Stages) (block : ℕ) (heads : List CaseHead) (cases : List Case) (stages : List ℕ) → Each (IsCase p) cases → Each (Each (IsCase p)) (own_from block heads cases stages)
all_own p block heads cases [] all = tt
all_own p block heads cases (stage ∷ stages) all = (own_hold p block heads cases all, all_own p (block + 1) heads cases stages all)

chances_above : (p : Stages) (cases : List Case) → Each (IsCase p) cases → Each IsAbove (map chance_of cases)
chances_above p [] all = tt
chances_above p (case ∷ cases) all = (all.0.positive, chances_above p cases all.1)

parts_hold : (p : Stages) (parts : List ℚ) (cases : List Case) → Each IsAbove parts → Each (IsCase p) cases → Each (IsCase p) (with_parts parts cases)
parts_hold p [] cases above all = tt
parts_hold p (part ∷ parts) [] above all = tt
parts_hold p (part ∷ parts) (case ∷ cases) above all = (record { positive = above.0; timely = all.0.timely }, parts_hold p parts cases above.1 all.1)

parts_sum : (parts : List ℚ) (cases : List Case) → length parts ≡ length cases → sum_ℚ chance_of (with_parts parts cases) ≡ sum_ℚ itself parts
parts_sum [] cases same = refl
parts_sum (part ∷ parts) [] same = absurd (omega (arith, same))
parts_sum (part ∷ parts) (case ∷ cases) same = ap (λ x. part +ℚ x) (parts_sum parts cases (omega (arith, same)))

block_holds : (p : Stages) (stage : ℕ) (cases : List Case) (block : Block) → 0 < stage → Each (IsCase p) cases → finish.block_of stage cases ≡ Ok block → IsBlock p block
block_holds p stage cases block later all e =
    let made : List ℚ → Block = λ parts. record { stage = stage; cases = with_parts parts cases } in
    let found = bind_ok (shared (map chance_of cases)) (λ parts. Ok (record { stage = stage; cases = with_parts parts cases })) block e in
    let parts = shares (map chance_of cases) found.0 found.1 in
    let above = parts.above (chances_above p cases all) in
    let same : length found.0 ≡ length cases = parts.same ∙ length-map cases chance_of in
    subst (IsBlock p) (sym (ok_is (made found.0) block found.2)) (record { later = later; cases = parts_hold p found.0 cases above all; certain = parts_sum found.0 cases same ∙ parts.certain })

blocks_hold : (p : Stages) (done_ : List Block) (stages : List ℕ) (all : List (List Case)) (blocks : List Block) → Each (IsBlock p) done_ → Each (λ (stage : ℕ). 0 < stage) stages → Each (Each (IsCase p)) all → blocks_from done_ stages all ≡ Ok blocks → Each (IsBlock p) blocks
blocks_hold p done_ [] all blocks before later hold e = subst (Each (IsBlock p)) (sym (ok_is done_ blocks e)) before
blocks_hold p done_ (stage ∷ stages) [] blocks before later hold e = subst (Each (IsBlock p)) (sym (ok_is done_ blocks e)) before
blocks_hold p done_ (stage ∷ stages) (cases ∷ all) blocks before later hold e =
    let found = bind_ok (finish.block_of stage cases) (λ block. blocks_from (done_ ++ block ∷ []) stages all) blocks e in
    blocks_hold p (done_ ++ found.0 ∷ []) stages all blocks (each_append (IsBlock p) done_ (found.0 ∷ []) before (block_holds p stage cases found.0 later.0 hold.0 found.1, tt)) later.1 hold.1 found.2

blocks_random : (p : Stages) (s : Stated) (random : Random) → Holds p s → finish.blocks_of s ≡ Ok random → AreCases p random
blocks_random p s random h e =
    let found = bind_ok (blocks_from [] s.blocks (own_from 0 s.cases (stated_cases s.cases s.case_sets) s.blocks)) (λ blocks. Ok (Blocks blocks)) random e in
    subst (AreCases p) (sym (ok_is (Blocks found.0) random found.2))
    (blocks_hold p [] s.blocks (own_from 0 s.cases (stated_cases s.cases s.case_sets) s.blocks) found.0 tt h.blocks
    (all_own p 0 s.cases (stated_cases s.cases s.case_sets) s.blocks (cases_hold p s.cases s.case_sets h.cases h.case_sets)) found.1)

-- ---- scenarios

branches_hold : (p : Stages) (names : List (List ℕ)) (heads : List BranchHead) (nodes : List Node) (parts : List ℚ) → Each IsLikelyBranch heads → Each (IsTimelyNode p) nodes → Each IsAbove parts →
    Each (IsBranch p) (branches_with names heads nodes parts)
branches_hold p (name ∷ names) (head ∷ heads) (node ∷ nodes) (part ∷ parts) likely timely above =
    (record { later = likely.0.later; positive = above.0; timely = timely.0 }, branches_hold p names heads nodes parts likely.1 timely.1 above.1)
branches_hold p [] heads nodes parts likely timely above = tt
branches_hold p (name ∷ names) [] nodes parts likely timely above = tt
branches_hold p (name ∷ names) (head ∷ heads) [] parts likely timely above = tt
branches_hold p (name ∷ names) (head ∷ heads) (node ∷ nodes) [] likely timely above = tt

-- each has its parent, or is past the last one
parents_are : (names : List (List ℕ)) (heads : List BranchHead) (nodes : List Node) (parts : List ℚ) (k : ℕ) →
    ((get_or (branches_with names heads nodes parts) k no_branch).parent ≡ (get_or nodes k no_node).parent) ⊎ ((get_or (branches_with names heads nodes parts) k no_branch).parent ≡ None)
parents_are (name ∷ names) (head ∷ heads) (node ∷ nodes) (part ∷ parts) zero = inl refl
parents_are (name ∷ names) (head ∷ heads) (node ∷ nodes) (part ∷ parts) (suc k) = parents_are names heads nodes parts k
parents_are [] heads nodes parts k = inr refl
parents_are (name ∷ names) [] nodes parts k = inr refl
parents_are (name ∷ names) (head ∷ heads) [] parts k = inr refl
parents_are (name ∷ names) (head ∷ heads) (node ∷ nodes) [] k = inr refl

ancestral : (names : List (List ℕ)) (heads : List BranchHead) (nodes : List Node) (parts : List ℚ) → AreInOrder nodes → AreAncestral (branches_with names heads nodes parts)
ancestral names heads nodes parts order k = go (parents_are names heads nodes parts k)
  where
    go : ((get_or (branches_with names heads nodes parts) k no_branch).parent ≡ (get_or nodes k no_node).parent) ⊎ ((get_or (branches_with names heads nodes parts) k no_branch).parent ≡ None) →
        IsBelow k (get_or (branches_with names heads nodes parts) k no_branch).parent
    go (inl is) = subst (IsBelow k) (sym is) (order k)
    go (inr is) = subst (IsBelow k) (sym is) tt

branches_sum : (names : List (List ℕ)) (heads : List BranchHead) (nodes : List Node) (parts : List ℚ) → length names ≡ length heads → length nodes ≡ length heads → length parts ≡ length heads →
    sum_ℚ (λ (b : Branch). b.probability) (branches_with names heads nodes parts) ≡ sum_ℚ itself parts
branches_sum (name ∷ names) (head ∷ heads) (node ∷ nodes) (part ∷ parts) a b c = ap (λ x. part +ℚ x) (branches_sum names heads nodes parts (omega (arith, a)) (omega (arith, b)) (omega (arith, c)))
branches_sum [] heads nodes [] a b c = refl
branches_sum [] heads nodes (part ∷ parts) a b c = absurd (omega (arith, a, c))
branches_sum (name ∷ names) [] nodes parts a b c = absurd (omega (arith, a))
branches_sum (name ∷ names) (head ∷ heads) [] parts a b c = absurd (omega (arith, b))
branches_sum (name ∷ names) (head ∷ heads) (node ∷ nodes) [] a b c = absurd (omega (arith, c))

names_are : (names : List (List ℕ)) (heads : List BranchHead) (nodes : List Node) (parts : List ℚ) → length names ≡ length heads → length nodes ≡ length heads → length parts ≡ length heads →
    map branch_name (branches_with names heads nodes parts) ≡ names
names_are (name ∷ names) (head ∷ heads) (node ∷ nodes) (part ∷ parts) a b c = ap (λ (rest : List (List ℕ)). name ∷ rest) (names_are names heads nodes parts (omega (arith, a)) (omega (arith, b)) (omega (arith, c)))
names_are [] heads nodes parts a b c = refl
names_are (name ∷ names) [] nodes parts a b c = absurd (omega (arith, a))
names_are (name ∷ names) (head ∷ heads) [] parts a b c = absurd (omega (arith, b))
names_are (name ∷ names) (head ∷ heads) (node ∷ nodes) [] a b c = absurd (omega (arith, c))

likely_above : (heads : List BranchHead) → Each IsLikelyBranch heads → Each IsAbove (map stated_branch heads)
likely_above [] all = tt
likely_above (head ∷ heads) all = (all.0.positive, likely_above heads all.1)

branches_random : (p : Stages) (s : Stated) (random : Random) → Holds p s → length s.branches ≡ length s.nodes → finish.branches_of s ≡ Ok random → AreCases p random
branches_random p s random h whole e =
    let found = bind_ok (shared (map stated_branch s.branches)) (λ parts. Ok (Branches (branches_with s.branch_names s.branches s.nodes parts))) random e in
    let parts = shares (map stated_branch s.branches) found.0 found.1 in
    let same : length found.0 ≡ length s.branches = parts.same ∙ length-map s.branches stated_branch in
    subst (AreCases p) (sym (ok_is (Branches (branches_with s.branch_names s.branches s.nodes found.0)) random found.2)) (record {
      all = branches_hold p s.branch_names s.branches s.nodes found.0 h.branches h.nodes (parts.above (likely_above s.branches h.branches));
      ancestral = ancestral s.branch_names s.branches s.nodes found.0 h.in_order;
      certain = branches_sum s.branch_names s.branches s.nodes found.0 h.names (sym whole) same ∙ parts.certain;
      names = subst AreNames (sym (names_are s.branch_names s.branches s.nodes found.0 h.names (sym whole) same)) (numbered_names s.branch_names h.numbered h.fields);
    })

-- ---- the file

end_section : (section : StochSection) → is_end section ≡ true → section ≡ sections.End
end_section sections.End e = refl
end_section sections.Start e = cc
end_section sections.Stoch e = cc
end_section sections.Indep e = cc
end_section sections.Blocks e = cc
end_section sections.Scenarios e = cc

whole_count : (b : Bool) (n m : ℕ) → AreCounted b sections.End n m → n ≡ m
whole_count true n m h = h
whole_count false n m h = h

random_holds : (p : Stages) (s : Stated) (random : Random) → Holds p s → is_end s.place.section ≡ true → random_of s ≡ Ok random → AreCases p random
random_holds p s random h ended e = go (is_empty s.branches) e
  where
    go : (b : Bool) → (if b then finish.blocks_of s else finish.branches_of s) ≡ Ok random → AreCases p random
    go true k = blocks_random p s random h k
    go false k =
        branches_random p s random h
        (whole_count s.in_work (length s.branches) (length s.nodes) (subst (λ (section : StochSection). AreCounted s.in_work section (length s.branches) (length s.nodes)) (end_section s.place.section ended) h.counted)) k

line_ok : (number : ℕ) (given : Result Stated Cause) (next : Stated → Result Random Refusal) (x : Random) → on_line number given next ≡ Ok x → (t : Stated) × (given ≡ Ok t) × (next t ≡ Ok x)
line_ok number (Ok t) next x e = (t, refl, e)
line_ok number (Err cause) next x e = cc

found_at : (number : ℕ) (given : Result Random Cause) (x : Random) → at_line number given ≡ Ok x → given ≡ Ok x
found_at number (Ok y) x e = cc
found_at number (Err cause) x e = cc

behind_line : (core : Core) (p : Stages) (t : Stated) (end_line number : ℕ) (lines : List TextLine) (x : Random) (b : Bool) → is_end t.place.section ≡ b → Holds p t →
    (is_end t.place.section ≡ false → read_from (stoch_file core p) end_line t lines ≡ Ok x → AreCases p x) →
    (if b then at_line number (random_of t) else read_from (stoch_file core p) end_line t lines) ≡ Ok x → AreCases p x
behind_line core p t end_line number lines x true is h later e = random_holds p t x h is (found_at number (random_of t) x e)
behind_line core p t end_line number lines x false is h later e = later is e

read_holds : (core : Core) (p : Stages) (s : Stated) (end_line : ℕ) (lines : List TextLine) (x : Random) → is_end s.place.section ≡ false → AllByRecursion HasFields lines → Holds p s → read_from (stoch_file core p) end_line s lines ≡ Ok x → AreCases p x
read_holds core p s end_line [] x open_ named h e = cc
read_holds core p s end_line (line ∷ lines) x open_ named h e =
    let k = line_ok line.number (if line.header then header_line s line.fields else data_line core p s.place.section s line.fields)
    (λ t. if is_end t.place.section then at_line line.number (random_of t) else read_from (stoch_file core p) end_line t lines) x e in
    let n = line_holds core p s k.0 line.header line.fields open_ named.0 h k.1 in
    behind_line core p k.0 end_line line.number lines x (is_end k.0.place.section) refl n (λ not_yet more. read_holds core p k.0 end_line lines x not_yet named.1 n more) k.2

pub read_cases_hold : ReadCasesHold
read_cases_hold core p text x e = read_holds core p nothing_stated (reading_of 0 text).end_line (reading_of 0 text).lines x refl (text_fields text) (nothing_holds p) e
