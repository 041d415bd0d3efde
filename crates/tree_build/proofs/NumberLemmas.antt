-- Numbers of nodes, step by step.
use Rattle.std.proofs.Common.{◌≡◌, ◌∙◌, ap, sym, refl, subst, ℕ, suc, ◌+◌, ◌<◌, ◌≤◌, Bool, true, false, List, [], ◌∷◌, ◌++◌, length, get_or, drop, Result, Ok, Err, arith, add-one, if◌then◌else◌}
use Rattle.std.proofs.lemmas.List.{length_push, at_drop_more}
use Rattle.std.specs.Result.{IfErr, IsErrAnd}
use Rattle.scen_defs.proofs.NodeReads.{drop_read}
use Rattle.smps_build.specs.declared.fault.BuildFault.{BuildFault}
use Rattle.smps_build.specs.declared.fault.BuildFault.TheVariants.{Limit, Passed, Memory}
use Rattle.tree_build.specs.declared.numbering.Debut.{Debut}
use Rattle.tree_build.specs.declared.numbering.Keys.{Keys}
use Rattle.tree_build.specs.declared.numbering.Path.{Path}
use Rattle.tree_build.specs.Numbering.{has_key, key_of, keys_of, with_debut, debuts_from, row_debuts, paths_from, rows_content, paths_content, IsOver}

pub over_more : (n m : ℕ) (fault : BuildFault) → n ≤ m → IsOver n fault → IsOver m fault
over_more n m Limit h over = omega (arith, h, over)
over_more n m (Passed p) h over = over
over_more n m Memory h over = tt

pub handed : {X : Type 0} (result : Result X BuildFault) (n m : ℕ) (fault : BuildFault) → IsErrAnd result (λ e. e ≡ fault) → n ≤ m → IsOver n fault → IfErr result (IsOver m)
handed (Ok x) n m fault is h over = absurd is
handed (Err e) n m fault is h over = subst (IsOver m) (sym is) (over_more n m fault h over)

more_or_same : (seen : List Debut) (debut : Debut) (b : Bool) → length seen ≤ length (if b then seen else seen ++ debut ∷ [])
more_or_same seen debut true = omega arith
more_or_same seen debut false = omega (arith, length_push seen debut)

pub grows : (seen debuts : List Debut) → length seen ≤ length (debuts_from seen debuts)
grows seen [] = omega arith
grows seen (debut ∷ debuts) =
    let step = more_or_same seen debut (has_key (keys_of seen) (key_of debut)) in
    omega (arith, step, grows (with_debut seen debut) debuts)

abbrev pub debut_at : ℕ → ℕ → List ℕ → Debut
debut_at scenario stage row = record { scenario = scenario; stage = stage; key = get_or row stage 0 }

pub row_read : (scenario stage : ℕ) (row : List ℕ) → stage < length row → row_debuts scenario stage (drop stage row) ≡ debut_at scenario stage row ∷ row_debuts scenario (stage + 1) (drop (stage + 1) row)
row_read scenario stage row below =
    at_drop_more (row_debuts scenario stage) row stage 0 below ∙ ap (λ n. debut_at scenario stage row ∷ row_debuts scenario n (drop (stage + 1) row)) (sym (add-one stage))

pub debuts_append : (seen one other : List Debut) → debuts_from seen (one ++ other) ≡ debuts_from (debuts_from seen one) other
debuts_append seen [] other = refl
debuts_append seen (debut ∷ one) other = debuts_append (with_debut seen debut) one other

pub rows_read : (rows : List Keys) (i : ℕ) (row : Keys) → i < length rows → row ≡ get_or rows i row → rows_content (drop i rows) ≡ row.by_stage.items ∷ rows_content (drop (i + 1) rows)
rows_read rows i row below read = ap rows_content (drop_read rows i row below read)

pub paths_push : (paths : List Path) (path : Path) → paths_content (paths ++ path ∷ []) ≡ paths_content paths ++ path.nodes.items ∷ []
paths_push [] path = refl
paths_push (first ∷ paths) path = ap (λ (rest : List (List ℕ)). first.nodes.items ∷ rest) (paths_push paths path)

pub paths_suc : (seen : List Debut) (scenario : ℕ) (rows : List (List ℕ)) → paths_from seen (scenario + 1) rows ≡ paths_from seen (suc scenario) rows
paths_suc seen scenario rows = ap (λ n. paths_from seen n rows) (add-one scenario)
