-- Texts of reports that are appended one behind the other.
use Rattle.std.proofs.Common.{◌≡◌, ℕ, ◌+◌, ◌<◌, ◌≤◌, List, ◌++◌, length, take, drop, get_or, min, Option, ap, sym, ◌∙◌, subst, arith}
use Rattle.std.specs.List.{flat_map}
use Rattle.std.proofs.Math.Seq.{take-append_seam, drop-append_seam}
use Rattle.std.proofs.lemmas.List.{take-append-drop, take-append-le, take_min, drop_more}
use Rattle.std.proofs.lemmas.Grind.{flat_map-append}
use Rattle.smps_io.specs.Puts.{Appends, AppendsPrefix}
use Rattle.smps_io.proofs.PutLemmas.{appends_more}
use Rattle.smps_session.specs.declared.told.Told.{Told}
use Rattle.smps_cli.specs.Solved.{told_text}

abbrev texts : List Told → List ℕ
texts = flat_map told_text

module _ (tolds : List Told) (i : ℕ) where
  -- those of some first reports, and those of the others
  split : texts tolds ≡ texts (take i tolds) ++ texts (drop i tolds)
  split = ap texts (sym (take-append-drop i tolds)) ∙ flat_map-append told_text (take i tolds) (drop i tolds)

  first : take (length (texts (take i tolds))) (texts tolds) ≡ texts (take i tolds)
  first = ap (take (length (texts (take i tolds)))) split ∙ take-append_seam (texts (take i tolds)) (texts (drop i tolds))

  behind : drop (length (texts (take i tolds))) (texts tolds) ≡ texts (drop i tolds)
  behind = ap (drop (length (texts (take i tolds)))) split ∙ drop-append_seam (texts (take i tolds)) (texts (drop i tolds))

  pub some_texts : (old new : Option (List ℕ)) → Appends old (texts (take i tolds)) new → AppendsPrefix old (texts tolds) new
  some_texts old new h = (length (texts (take i tolds)), subst (λ (bytes : List ℕ). Appends old bytes new) (sym first) h)

  module _ (told : Told) (here : i < length tolds) (is : told ≡ get_or tolds i told) where
    -- of the others a part that is no longer than the first of them
    part : (n : ℕ) → n ≤ length (told_text told) → take n (texts (drop i tolds)) ≡ take n (told_text told)
    part n within =
        ap (λ (rest : List Told). take n (texts rest)) (drop_more tolds i told here)
        ∙ ap (λ (one : Told). take n (told_text one ++ texts (drop (i + 1) tolds))) (sym is)
        ∙ take-append-le n (told_text told) (texts (drop (i + 1) tolds)) within

    pub some_and_part : (old mid new : Option (List ℕ)) → Appends old (texts (take i tolds)) mid → AppendsPrefix mid (told_text told) new
        → AppendsPrefix old (texts tolds) new
    some_and_part old mid new h then =
        let n = min then.0 (length (told_text told)) in
        let bytes : take n (drop (length (texts (take i tolds))) (texts tolds)) ≡ take then.0 (told_text told) =
        ap (take n) behind ∙ part n (omega arith) ∙ take_min then.0 (told_text told) in (
          length (texts (take i tolds)) + n,
          appends_more old mid new (texts tolds) (length (texts (take i tolds))) n
              (subst (λ (some : List ℕ). Appends old some mid) (sym first) h)
              (subst (λ (some : List ℕ). Appends mid some new) (sym bytes) then.1),
        )
