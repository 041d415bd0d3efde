use Rattle.std.proofs.Common.{◌≡◌, refl, sym, ◌∙◌, subst, Option}
use Rattle.std.proofs.lemmas.List.{append-nil}
use Rattle.smps_io.specs.Faults.{Rose}
use Rattle.smps_io.specs.Files.{Files}
use Rattle.command_words.specs.Views.{sources_view}
use Rattle.input_files.specs.Unfetched.{IsCause, given_bytes}
use Rattle.input_files.specs.Fetched.{IsGivenIf}
use Rattle.input_files.specs.declared.fetch.Unfetched.TheVariants.{Failed}
use Rattle.input_files.specs.declared.kind.FileKind.TheVariants as kind
use Rattle.input_files.proofs.CauseLemmas.{cause_of, cause_if, failed_of, failed_if, err_is, err_same, not_err, rose_later}
use Rattle.input_files.proofs.FetchLemmas.{in_core, in_time, in_stoch, in_edits, in_report, in_basis, in_measures}
use Rattle.input_files.proofs.FetchLemmas.{to_time, to_stoch, to_edits, to_report, to_basis, to_measures, stops_of, stops_if}
use Rattle.input_files.proofs.fetch.fetched_texts.Goals as goal

pub returns-in-Err-clause-cause : goal.returns-in-Err-clause-cause
returns-in-Err-clause-cause g c =
    cause_of (g.H.Shelf.content c.args.shelf.now) (sources_view c.args.sources.now) kind.Core (sources_view c.args.sources.now).core refl c.in-Err.fault c.in-Err.ensures.cause

pub returns-in-Err-fetched_if-clause-cause : goal.returns-in-Err-fetched_if-clause-cause
returns-in-Err-fetched_if-clause-cause g c =
    subst (λ (content : Option Files). IsCause content (sources_view c.args.sources.now) c.in-Err-fetched_if.fault) (c.in-Ok.ensures.same)
    (cause_if (g.H.Shelf.content c.fetched.new.shelf) (sources_view c.args.sources.now) kind.Time (sources_view c.args.sources.now).time refl c.in-Err-fetched_if.fault c.in-Err-fetched_if.ensures.cause)

pub returns-in-Err-fetched_if-2-clause-cause : goal.returns-in-Err-fetched_if-2-clause-cause
returns-in-Err-fetched_if-2-clause-cause g c =
    subst (λ (content : Option Files). IsCause content (sources_view c.args.sources.now) c.in-Err-fetched_if-2.fault) (c.in-Ok-fetched_if.ensures.same ∙ c.in-Ok.ensures.same)
    (cause_if (g.H.Shelf.content c.fetched_if.new.shelf) (sources_view c.args.sources.now) kind.Stoch (sources_view c.args.sources.now).stoch refl c.in-Err-fetched_if-2.fault c.in-Err-fetched_if-2.ensures.cause)

pub returns-in-Err-fetched_if-3-clause-cause : goal.returns-in-Err-fetched_if-3-clause-cause
returns-in-Err-fetched_if-3-clause-cause g c =
    subst (λ (content : Option Files). IsCause content (sources_view c.args.sources.now) c.in-Err-fetched_if-3.fault) (c.in-Ok-fetched_if-2.ensures.same ∙ c.in-Ok-fetched_if.ensures.same ∙ c.in-Ok.ensures.same)
    (cause_if (g.H.Shelf.content c.fetched_if-2.new.shelf) (sources_view c.args.sources.now) kind.Edits (sources_view c.args.sources.now).edits refl c.in-Err-fetched_if-3.fault c.in-Err-fetched_if-3.ensures.cause)

pub returns-in-Err-fetched_if-4-clause-cause : goal.returns-in-Err-fetched_if-4-clause-cause
returns-in-Err-fetched_if-4-clause-cause g c =
    subst (λ (content : Option Files). IsCause content (sources_view c.args.sources.now) c.in-Err-fetched_if-4.fault) (c.in-Ok-fetched_if-3.ensures.same ∙ c.in-Ok-fetched_if-2.ensures.same ∙ c.in-Ok-fetched_if.ensures.same ∙ c.in-Ok.ensures.same)
    (cause_if (g.H.Shelf.content c.fetched_if-3.new.shelf) (sources_view c.args.sources.now) kind.Report (sources_view c.args.sources.now).report refl c.in-Err-fetched_if-4.fault c.in-Err-fetched_if-4.ensures.cause)

pub returns-in-Err-fetched_if-5-clause-cause : goal.returns-in-Err-fetched_if-5-clause-cause
returns-in-Err-fetched_if-5-clause-cause g c =
    subst (λ (content : Option Files). IsCause content (sources_view c.args.sources.now) c.in-Err-fetched_if-5.fault) (c.in-Ok-fetched_if-4.ensures.same ∙ c.in-Ok-fetched_if-3.ensures.same ∙ c.in-Ok-fetched_if-2.ensures.same ∙ c.in-Ok-fetched_if.ensures.same ∙ c.in-Ok.ensures.same)
    (cause_if (g.H.Shelf.content c.fetched_if-4.new.shelf) (sources_view c.args.sources.now) kind.Basis (sources_view c.args.sources.now).basis refl c.in-Err-fetched_if-5.fault c.in-Err-fetched_if-5.ensures.cause)

pub returns-in-Err-fetched_if-6-clause-cause : goal.returns-in-Err-fetched_if-6-clause-cause
returns-in-Err-fetched_if-6-clause-cause g c =
    subst (λ (content : Option Files). IsCause content (sources_view c.args.sources.now) c.in-Err-fetched_if-6.fault) (c.in-Ok-fetched_if-5.ensures.same ∙ c.in-Ok-fetched_if-4.ensures.same ∙ c.in-Ok-fetched_if-3.ensures.same ∙ c.in-Ok-fetched_if-2.ensures.same ∙ c.in-Ok-fetched_if.ensures.same ∙ c.in-Ok.ensures.same)
    (cause_if (g.H.Shelf.content c.fetched_if-5.new.shelf) (sources_view c.args.sources.now) kind.Measures (sources_view c.args.sources.now).measures refl c.in-Err-fetched_if-6.fault c.in-Err-fetched_if-6.ensures.cause)

pub returns-in-Err-clause-once : goal.returns-in-Err-clause-once
returns-in-Err-clause-once g c =
    in_core (sources_view c.args.sources.now) (g.H.Shelf.fetches c.args.shelf.now) (g.H.Shelf.fetches c.fetched.new.shelf) c.in-Err.ensures.once

pub returns-in-Err-fetched_if-clause-once : goal.returns-in-Err-fetched_if-clause-once
returns-in-Err-fetched_if-clause-once g c =
    in_time (sources_view c.args.sources.now) (g.H.Shelf.fetches c.args.shelf.now) (g.H.Shelf.fetches c.fetched_if.new.shelf) (g.H.Shelf.fetches c.fetched.new.shelf)
    c.in-Ok.ensures.names c.in-Err-fetched_if.ensures.once

pub returns-in-Err-fetched_if-2-clause-once : goal.returns-in-Err-fetched_if-2-clause-once
returns-in-Err-fetched_if-2-clause-once g c =
    in_stoch (sources_view c.args.sources.now) (g.H.Shelf.fetches c.args.shelf.now) (g.H.Shelf.fetches c.fetched_if-2.new.shelf) (g.H.Shelf.fetches c.fetched_if.new.shelf)
    (to_time (sources_view c.args.sources.now) (g.H.Shelf.fetches c.args.shelf.now) (g.H.Shelf.fetches c.fetched.new.shelf) (g.H.Shelf.fetches c.fetched_if.new.shelf)
    c.in-Ok.ensures.names c.in-Ok-fetched_if.ensures.names) c.in-Err-fetched_if-2.ensures.once

pub returns-in-Err-fetched_if-3-clause-once : goal.returns-in-Err-fetched_if-3-clause-once
returns-in-Err-fetched_if-3-clause-once g c =
    in_edits (sources_view c.args.sources.now) (g.H.Shelf.fetches c.args.shelf.now) (g.H.Shelf.fetches c.fetched_if-3.new.shelf) (g.H.Shelf.fetches c.fetched_if-2.new.shelf)
    (to_stoch (sources_view c.args.sources.now) (g.H.Shelf.fetches c.args.shelf.now) (g.H.Shelf.fetches c.fetched_if.new.shelf) (g.H.Shelf.fetches c.fetched_if-2.new.shelf)
    (to_time (sources_view c.args.sources.now) (g.H.Shelf.fetches c.args.shelf.now) (g.H.Shelf.fetches c.fetched.new.shelf) (g.H.Shelf.fetches c.fetched_if.new.shelf)
    c.in-Ok.ensures.names c.in-Ok-fetched_if.ensures.names) c.in-Ok-fetched_if-2.ensures.names) c.in-Err-fetched_if-3.ensures.once

pub returns-in-Err-fetched_if-4-clause-once : goal.returns-in-Err-fetched_if-4-clause-once
returns-in-Err-fetched_if-4-clause-once g c =
    in_report (sources_view c.args.sources.now) (g.H.Shelf.fetches c.args.shelf.now) (g.H.Shelf.fetches c.fetched_if-4.new.shelf) (g.H.Shelf.fetches c.fetched_if-3.new.shelf)
    (to_edits (sources_view c.args.sources.now) (g.H.Shelf.fetches c.args.shelf.now) (g.H.Shelf.fetches c.fetched_if-2.new.shelf) (g.H.Shelf.fetches c.fetched_if-3.new.shelf)
    (to_stoch (sources_view c.args.sources.now) (g.H.Shelf.fetches c.args.shelf.now) (g.H.Shelf.fetches c.fetched_if.new.shelf) (g.H.Shelf.fetches c.fetched_if-2.new.shelf)
    (to_time (sources_view c.args.sources.now) (g.H.Shelf.fetches c.args.shelf.now) (g.H.Shelf.fetches c.fetched.new.shelf) (g.H.Shelf.fetches c.fetched_if.new.shelf)
    c.in-Ok.ensures.names c.in-Ok-fetched_if.ensures.names) c.in-Ok-fetched_if-2.ensures.names) c.in-Ok-fetched_if-3.ensures.names) c.in-Err-fetched_if-4.ensures.once

pub returns-in-Err-fetched_if-5-clause-once : goal.returns-in-Err-fetched_if-5-clause-once
returns-in-Err-fetched_if-5-clause-once g c =
    in_basis (sources_view c.args.sources.now) (g.H.Shelf.fetches c.args.shelf.now) (g.H.Shelf.fetches c.fetched_if-5.new.shelf) (g.H.Shelf.fetches c.fetched_if-4.new.shelf)
    (to_report (sources_view c.args.sources.now) (g.H.Shelf.fetches c.args.shelf.now) (g.H.Shelf.fetches c.fetched_if-3.new.shelf) (g.H.Shelf.fetches c.fetched_if-4.new.shelf)
    (to_edits (sources_view c.args.sources.now) (g.H.Shelf.fetches c.args.shelf.now) (g.H.Shelf.fetches c.fetched_if-2.new.shelf) (g.H.Shelf.fetches c.fetched_if-3.new.shelf)
    (to_stoch (sources_view c.args.sources.now) (g.H.Shelf.fetches c.args.shelf.now) (g.H.Shelf.fetches c.fetched_if.new.shelf) (g.H.Shelf.fetches c.fetched_if-2.new.shelf)
    (to_time (sources_view c.args.sources.now) (g.H.Shelf.fetches c.args.shelf.now) (g.H.Shelf.fetches c.fetched.new.shelf) (g.H.Shelf.fetches c.fetched_if.new.shelf)
    c.in-Ok.ensures.names c.in-Ok-fetched_if.ensures.names) c.in-Ok-fetched_if-2.ensures.names) c.in-Ok-fetched_if-3.ensures.names) c.in-Ok-fetched_if-4.ensures.names) c.in-Err-fetched_if-5.ensures.once

pub returns-in-Err-fetched_if-6-clause-once : goal.returns-in-Err-fetched_if-6-clause-once
returns-in-Err-fetched_if-6-clause-once g c =
    in_measures (sources_view c.args.sources.now) (g.H.Shelf.fetches c.args.shelf.now) (g.H.Shelf.fetches c.fetched_if-6.new.shelf) (g.H.Shelf.fetches c.fetched_if-5.new.shelf)
    (to_basis (sources_view c.args.sources.now) (g.H.Shelf.fetches c.args.shelf.now) (g.H.Shelf.fetches c.fetched_if-4.new.shelf) (g.H.Shelf.fetches c.fetched_if-5.new.shelf)
    (to_report (sources_view c.args.sources.now) (g.H.Shelf.fetches c.args.shelf.now) (g.H.Shelf.fetches c.fetched_if-3.new.shelf) (g.H.Shelf.fetches c.fetched_if-4.new.shelf)
    (to_edits (sources_view c.args.sources.now) (g.H.Shelf.fetches c.args.shelf.now) (g.H.Shelf.fetches c.fetched_if-2.new.shelf) (g.H.Shelf.fetches c.fetched_if-3.new.shelf)
    (to_stoch (sources_view c.args.sources.now) (g.H.Shelf.fetches c.args.shelf.now) (g.H.Shelf.fetches c.fetched_if.new.shelf) (g.H.Shelf.fetches c.fetched_if-2.new.shelf)
    (to_time (sources_view c.args.sources.now) (g.H.Shelf.fetches c.args.shelf.now) (g.H.Shelf.fetches c.fetched.new.shelf) (g.H.Shelf.fetches c.fetched_if.new.shelf)
    c.in-Ok.ensures.names c.in-Ok-fetched_if.ensures.names) c.in-Ok-fetched_if-2.ensures.names) c.in-Ok-fetched_if-3.ensures.names) c.in-Ok-fetched_if-4.ensures.names) c.in-Ok-fetched_if-5.ensures.names) c.in-Err-fetched_if-6.ensures.once

pub returns-in-Ok-fetched_if-6-clause-once : goal.returns-in-Ok-fetched_if-6-clause-once
returns-in-Ok-fetched_if-6-clause-once g c =
    in_measures (sources_view c.args.sources.now) (g.H.Shelf.fetches c.args.shelf.now) (g.H.Shelf.fetches c.fetched_if-6.new.shelf) (g.H.Shelf.fetches c.fetched_if-5.new.shelf)
    (to_basis (sources_view c.args.sources.now) (g.H.Shelf.fetches c.args.shelf.now) (g.H.Shelf.fetches c.fetched_if-4.new.shelf) (g.H.Shelf.fetches c.fetched_if-5.new.shelf)
    (to_report (sources_view c.args.sources.now) (g.H.Shelf.fetches c.args.shelf.now) (g.H.Shelf.fetches c.fetched_if-3.new.shelf) (g.H.Shelf.fetches c.fetched_if-4.new.shelf)
    (to_edits (sources_view c.args.sources.now) (g.H.Shelf.fetches c.args.shelf.now) (g.H.Shelf.fetches c.fetched_if-2.new.shelf) (g.H.Shelf.fetches c.fetched_if-3.new.shelf)
    (to_stoch (sources_view c.args.sources.now) (g.H.Shelf.fetches c.args.shelf.now) (g.H.Shelf.fetches c.fetched_if.new.shelf) (g.H.Shelf.fetches c.fetched_if-2.new.shelf)
    (to_time (sources_view c.args.sources.now) (g.H.Shelf.fetches c.args.shelf.now) (g.H.Shelf.fetches c.fetched.new.shelf) (g.H.Shelf.fetches c.fetched_if.new.shelf)
    c.in-Ok.ensures.names c.in-Ok-fetched_if.ensures.names) c.in-Ok-fetched_if-2.ensures.names) c.in-Ok-fetched_if-3.ensures.names) c.in-Ok-fetched_if-4.ensures.names) c.in-Ok-fetched_if-5.ensures.names) c.in-Ok-fetched_if-6.ensures.once

pub returns-in-Err-clause-failed : goal.returns-in-Err-clause-failed
returns-in-Err-clause-failed g c of e =
    let fault_is : c.in-Err.fault ≡ Failed kind.Core = failed_of (g.H.Shelf.content c.args.shelf.now) kind.Core of (sources_view c.args.sources.now).core c.in-Err.fault (err_is e) c.in-Err.ensures.cause in
    c.in-Err.ensures.failed (err_same fault_is)

pub returns-in-Err-fetched_if-clause-failed : goal.returns-in-Err-fetched_if-clause-failed
returns-in-Err-fetched_if-clause-failed g c of e =
    let fault_is : c.in-Err-fetched_if.fault ≡ Failed kind.Time = failed_if (g.H.Shelf.content c.fetched.new.shelf) kind.Time of (sources_view c.args.sources.now).time c.in-Err-fetched_if.fault (err_is e) c.in-Err-fetched_if.ensures.cause in
    let rose : Rose (g.H.Shelf.faults c.fetched.new.shelf) (g.H.Shelf.faults c.fetched_if.new.shelf) = c.in-Err-fetched_if.ensures.failed (err_same fault_is) in
    rose_later (g.H.Shelf.faults c.args.shelf.now) (g.H.Shelf.faults c.fetched.new.shelf) (g.H.Shelf.faults c.fetched_if.new.shelf) c.fetched.ensures.later
    rose

pub returns-in-Err-fetched_if-2-clause-failed : goal.returns-in-Err-fetched_if-2-clause-failed
returns-in-Err-fetched_if-2-clause-failed g c of e =
    let fault_is : c.in-Err-fetched_if-2.fault ≡ Failed kind.Stoch = failed_if (g.H.Shelf.content c.fetched_if.new.shelf) kind.Stoch of (sources_view c.args.sources.now).stoch c.in-Err-fetched_if-2.fault (err_is e) c.in-Err-fetched_if-2.ensures.cause in
    let rose : Rose (g.H.Shelf.faults c.fetched_if.new.shelf) (g.H.Shelf.faults c.fetched_if-2.new.shelf) = c.in-Err-fetched_if-2.ensures.failed (err_same fault_is) in
    rose_later (g.H.Shelf.faults c.args.shelf.now) (g.H.Shelf.faults c.fetched.new.shelf) (g.H.Shelf.faults c.fetched_if-2.new.shelf) c.fetched.ensures.later
    (rose_later (g.H.Shelf.faults c.fetched.new.shelf) (g.H.Shelf.faults c.fetched_if.new.shelf) (g.H.Shelf.faults c.fetched_if-2.new.shelf) c.fetched_if.ensures.later
    rose)

pub returns-in-Err-fetched_if-3-clause-failed : goal.returns-in-Err-fetched_if-3-clause-failed
returns-in-Err-fetched_if-3-clause-failed g c of e =
    let fault_is : c.in-Err-fetched_if-3.fault ≡ Failed kind.Edits = failed_if (g.H.Shelf.content c.fetched_if-2.new.shelf) kind.Edits of (sources_view c.args.sources.now).edits c.in-Err-fetched_if-3.fault (err_is e) c.in-Err-fetched_if-3.ensures.cause in
    let rose : Rose (g.H.Shelf.faults c.fetched_if-2.new.shelf) (g.H.Shelf.faults c.fetched_if-3.new.shelf) = c.in-Err-fetched_if-3.ensures.failed (err_same fault_is) in
    rose_later (g.H.Shelf.faults c.args.shelf.now) (g.H.Shelf.faults c.fetched.new.shelf) (g.H.Shelf.faults c.fetched_if-3.new.shelf) c.fetched.ensures.later
    (rose_later (g.H.Shelf.faults c.fetched.new.shelf) (g.H.Shelf.faults c.fetched_if.new.shelf) (g.H.Shelf.faults c.fetched_if-3.new.shelf) c.fetched_if.ensures.later
    (rose_later (g.H.Shelf.faults c.fetched_if.new.shelf) (g.H.Shelf.faults c.fetched_if-2.new.shelf) (g.H.Shelf.faults c.fetched_if-3.new.shelf) c.fetched_if-2.ensures.later
    rose))

pub returns-in-Err-fetched_if-4-clause-failed : goal.returns-in-Err-fetched_if-4-clause-failed
returns-in-Err-fetched_if-4-clause-failed g c of e =
    let fault_is : c.in-Err-fetched_if-4.fault ≡ Failed kind.Report = failed_if (g.H.Shelf.content c.fetched_if-3.new.shelf) kind.Report of (sources_view c.args.sources.now).report c.in-Err-fetched_if-4.fault (err_is e) c.in-Err-fetched_if-4.ensures.cause in
    let rose : Rose (g.H.Shelf.faults c.fetched_if-3.new.shelf) (g.H.Shelf.faults c.fetched_if-4.new.shelf) = c.in-Err-fetched_if-4.ensures.failed (err_same fault_is) in
    rose_later (g.H.Shelf.faults c.args.shelf.now) (g.H.Shelf.faults c.fetched.new.shelf) (g.H.Shelf.faults c.fetched_if-4.new.shelf) c.fetched.ensures.later
    (rose_later (g.H.Shelf.faults c.fetched.new.shelf) (g.H.Shelf.faults c.fetched_if.new.shelf) (g.H.Shelf.faults c.fetched_if-4.new.shelf) c.fetched_if.ensures.later
    (rose_later (g.H.Shelf.faults c.fetched_if.new.shelf) (g.H.Shelf.faults c.fetched_if-2.new.shelf) (g.H.Shelf.faults c.fetched_if-4.new.shelf) c.fetched_if-2.ensures.later
    (rose_later (g.H.Shelf.faults c.fetched_if-2.new.shelf) (g.H.Shelf.faults c.fetched_if-3.new.shelf) (g.H.Shelf.faults c.fetched_if-4.new.shelf) c.fetched_if-3.ensures.later
    rose)))

pub returns-in-Err-fetched_if-5-clause-failed : goal.returns-in-Err-fetched_if-5-clause-failed
returns-in-Err-fetched_if-5-clause-failed g c of e =
    let fault_is : c.in-Err-fetched_if-5.fault ≡ Failed kind.Basis = failed_if (g.H.Shelf.content c.fetched_if-4.new.shelf) kind.Basis of (sources_view c.args.sources.now).basis c.in-Err-fetched_if-5.fault (err_is e) c.in-Err-fetched_if-5.ensures.cause in
    let rose : Rose (g.H.Shelf.faults c.fetched_if-4.new.shelf) (g.H.Shelf.faults c.fetched_if-5.new.shelf) = c.in-Err-fetched_if-5.ensures.failed (err_same fault_is) in
    rose_later (g.H.Shelf.faults c.args.shelf.now) (g.H.Shelf.faults c.fetched.new.shelf) (g.H.Shelf.faults c.fetched_if-5.new.shelf) c.fetched.ensures.later
    (rose_later (g.H.Shelf.faults c.fetched.new.shelf) (g.H.Shelf.faults c.fetched_if.new.shelf) (g.H.Shelf.faults c.fetched_if-5.new.shelf) c.fetched_if.ensures.later
    (rose_later (g.H.Shelf.faults c.fetched_if.new.shelf) (g.H.Shelf.faults c.fetched_if-2.new.shelf) (g.H.Shelf.faults c.fetched_if-5.new.shelf) c.fetched_if-2.ensures.later
    (rose_later (g.H.Shelf.faults c.fetched_if-2.new.shelf) (g.H.Shelf.faults c.fetched_if-3.new.shelf) (g.H.Shelf.faults c.fetched_if-5.new.shelf) c.fetched_if-3.ensures.later
    (rose_later (g.H.Shelf.faults c.fetched_if-3.new.shelf) (g.H.Shelf.faults c.fetched_if-4.new.shelf) (g.H.Shelf.faults c.fetched_if-5.new.shelf) c.fetched_if-4.ensures.later
    rose))))

pub returns-in-Err-fetched_if-6-clause-failed : goal.returns-in-Err-fetched_if-6-clause-failed
returns-in-Err-fetched_if-6-clause-failed g c of e =
    let fault_is : c.in-Err-fetched_if-6.fault ≡ Failed kind.Measures = failed_if (g.H.Shelf.content c.fetched_if-5.new.shelf) kind.Measures of (sources_view c.args.sources.now).measures c.in-Err-fetched_if-6.fault (err_is e) c.in-Err-fetched_if-6.ensures.cause in
    let rose : Rose (g.H.Shelf.faults c.fetched_if-5.new.shelf) (g.H.Shelf.faults c.fetched_if-6.new.shelf) = c.in-Err-fetched_if-6.ensures.failed (err_same fault_is) in
    rose_later (g.H.Shelf.faults c.args.shelf.now) (g.H.Shelf.faults c.fetched.new.shelf) (g.H.Shelf.faults c.fetched_if-6.new.shelf) c.fetched.ensures.later
    (rose_later (g.H.Shelf.faults c.fetched.new.shelf) (g.H.Shelf.faults c.fetched_if.new.shelf) (g.H.Shelf.faults c.fetched_if-6.new.shelf) c.fetched_if.ensures.later
    (rose_later (g.H.Shelf.faults c.fetched_if.new.shelf) (g.H.Shelf.faults c.fetched_if-2.new.shelf) (g.H.Shelf.faults c.fetched_if-6.new.shelf) c.fetched_if-2.ensures.later
    (rose_later (g.H.Shelf.faults c.fetched_if-2.new.shelf) (g.H.Shelf.faults c.fetched_if-3.new.shelf) (g.H.Shelf.faults c.fetched_if-6.new.shelf) c.fetched_if-3.ensures.later
    (rose_later (g.H.Shelf.faults c.fetched_if-3.new.shelf) (g.H.Shelf.faults c.fetched_if-4.new.shelf) (g.H.Shelf.faults c.fetched_if-6.new.shelf) c.fetched_if-4.ensures.later
    (rose_later (g.H.Shelf.faults c.fetched_if-4.new.shelf) (g.H.Shelf.faults c.fetched_if-5.new.shelf) (g.H.Shelf.faults c.fetched_if-6.new.shelf) c.fetched_if-5.ensures.later
    rose)))))

pub returns-in-Ok-fetched_if-6-clause-given : goal.returns-in-Ok-fetched_if-6-clause-given
returns-in-Ok-fetched_if-6-clause-given g c = record {
  core = c.in-Ok.ensures.given;
  time = subst (λ (content : Option Files). IsGivenIf content (sources_view c.args.sources.now).time (given_bytes c.in-Ok-fetched_if.bytes)) (c.in-Ok.ensures.same) c.in-Ok-fetched_if.ensures.given;
  stoch = subst (λ (content : Option Files). IsGivenIf content (sources_view c.args.sources.now).stoch (given_bytes c.in-Ok-fetched_if-2.bytes)) (c.in-Ok-fetched_if.ensures.same ∙ c.in-Ok.ensures.same) c.in-Ok-fetched_if-2.ensures.given;
  edits = subst (λ (content : Option Files). IsGivenIf content (sources_view c.args.sources.now).edits (given_bytes c.in-Ok-fetched_if-3.bytes)) (c.in-Ok-fetched_if-2.ensures.same ∙ c.in-Ok-fetched_if.ensures.same ∙ c.in-Ok.ensures.same) c.in-Ok-fetched_if-3.ensures.given;
  report = subst (λ (content : Option Files). IsGivenIf content (sources_view c.args.sources.now).report (given_bytes c.in-Ok-fetched_if-4.bytes)) (c.in-Ok-fetched_if-3.ensures.same ∙ c.in-Ok-fetched_if-2.ensures.same ∙ c.in-Ok-fetched_if.ensures.same ∙ c.in-Ok.ensures.same) c.in-Ok-fetched_if-4.ensures.given;
  basis = subst (λ (content : Option Files). IsGivenIf content (sources_view c.args.sources.now).basis (given_bytes c.in-Ok-fetched_if-5.bytes)) (c.in-Ok-fetched_if-4.ensures.same ∙ c.in-Ok-fetched_if-3.ensures.same ∙ c.in-Ok-fetched_if-2.ensures.same ∙ c.in-Ok-fetched_if.ensures.same ∙ c.in-Ok.ensures.same) c.in-Ok-fetched_if-5.ensures.given;
  measures = subst (λ (content : Option Files). IsGivenIf content (sources_view c.args.sources.now).measures (given_bytes c.in-Ok-fetched_if-6.measures)) (c.in-Ok-fetched_if-5.ensures.same ∙ c.in-Ok-fetched_if-4.ensures.same ∙ c.in-Ok-fetched_if-3.ensures.same ∙ c.in-Ok-fetched_if-2.ensures.same ∙ c.in-Ok-fetched_if.ensures.same ∙ c.in-Ok.ensures.same) c.in-Ok-fetched_if-6.ensures.given;
}

pub returns-in-Ok-fetched_if-6-clause-names : goal.returns-in-Ok-fetched_if-6-clause-names
returns-in-Ok-fetched_if-6-clause-names g c =
    to_measures (sources_view c.args.sources.now) (g.H.Shelf.fetches c.args.shelf.now) (g.H.Shelf.fetches c.fetched_if-5.new.shelf) (g.H.Shelf.fetches c.fetched_if-6.new.shelf)
    (to_basis (sources_view c.args.sources.now) (g.H.Shelf.fetches c.args.shelf.now) (g.H.Shelf.fetches c.fetched_if-4.new.shelf) (g.H.Shelf.fetches c.fetched_if-5.new.shelf)
    (to_report (sources_view c.args.sources.now) (g.H.Shelf.fetches c.args.shelf.now) (g.H.Shelf.fetches c.fetched_if-3.new.shelf) (g.H.Shelf.fetches c.fetched_if-4.new.shelf)
    (to_edits (sources_view c.args.sources.now) (g.H.Shelf.fetches c.args.shelf.now) (g.H.Shelf.fetches c.fetched_if-2.new.shelf) (g.H.Shelf.fetches c.fetched_if-3.new.shelf)
    (to_stoch (sources_view c.args.sources.now) (g.H.Shelf.fetches c.args.shelf.now) (g.H.Shelf.fetches c.fetched_if.new.shelf) (g.H.Shelf.fetches c.fetched_if-2.new.shelf)
    (to_time (sources_view c.args.sources.now) (g.H.Shelf.fetches c.args.shelf.now) (g.H.Shelf.fetches c.fetched.new.shelf) (g.H.Shelf.fetches c.fetched_if.new.shelf)
    c.in-Ok.ensures.names c.in-Ok-fetched_if.ensures.names) c.in-Ok-fetched_if-2.ensures.names) c.in-Ok-fetched_if-3.ensures.names) c.in-Ok-fetched_if-4.ensures.names) c.in-Ok-fetched_if-5.ensures.names) c.in-Ok-fetched_if-6.ensures.names

pub returns-in-Ok-fetched_if-6-clause-failed : goal.returns-in-Ok-fetched_if-6-clause-failed
returns-in-Ok-fetched_if-6-clause-failed g c of e =
    not_err e

pub returns-in-Err-clause-stops : goal.returns-in-Err-clause-stops
returns-in-Err-clause-stops g c =
    stops_of (sources_view c.args.sources.now) (g.H.Shelf.content c.args.shelf.now) kind.Core (g.H.Shelf.fetches c.args.shelf.now) (g.H.Shelf.fetches c.args.shelf.now) (g.H.Shelf.fetches c.fetched.new.shelf)
    (sym (append-nil (g.H.Shelf.fetches c.args.shelf.now)))
    (sources_view c.args.sources.now).core refl c.in-Err.fault c.in-Err.ensures.cause c.in-Err.ensures.stops

pub returns-in-Err-fetched_if-clause-stops : goal.returns-in-Err-fetched_if-clause-stops
returns-in-Err-fetched_if-clause-stops g c =
    stops_if (sources_view c.args.sources.now) (g.H.Shelf.content c.fetched.new.shelf) kind.Time (g.H.Shelf.fetches c.args.shelf.now) (g.H.Shelf.fetches c.fetched.new.shelf) (g.H.Shelf.fetches c.fetched_if.new.shelf)
    c.in-Ok.ensures.names
    (sources_view c.args.sources.now).time refl c.in-Err-fetched_if.fault c.in-Err-fetched_if.ensures.cause c.in-Err-fetched_if.ensures.stops

pub returns-in-Err-fetched_if-2-clause-stops : goal.returns-in-Err-fetched_if-2-clause-stops
returns-in-Err-fetched_if-2-clause-stops g c =
    stops_if (sources_view c.args.sources.now) (g.H.Shelf.content c.fetched_if.new.shelf) kind.Stoch (g.H.Shelf.fetches c.args.shelf.now) (g.H.Shelf.fetches c.fetched_if.new.shelf) (g.H.Shelf.fetches c.fetched_if-2.new.shelf)
    (to_time (sources_view c.args.sources.now) (g.H.Shelf.fetches c.args.shelf.now) (g.H.Shelf.fetches c.fetched.new.shelf) (g.H.Shelf.fetches c.fetched_if.new.shelf)
    c.in-Ok.ensures.names c.in-Ok-fetched_if.ensures.names)
    (sources_view c.args.sources.now).stoch refl c.in-Err-fetched_if-2.fault c.in-Err-fetched_if-2.ensures.cause c.in-Err-fetched_if-2.ensures.stops

pub returns-in-Err-fetched_if-3-clause-stops : goal.returns-in-Err-fetched_if-3-clause-stops
returns-in-Err-fetched_if-3-clause-stops g c =
    stops_if (sources_view c.args.sources.now) (g.H.Shelf.content c.fetched_if-2.new.shelf) kind.Edits (g.H.Shelf.fetches c.args.shelf.now) (g.H.Shelf.fetches c.fetched_if-2.new.shelf) (g.H.Shelf.fetches c.fetched_if-3.new.shelf)
    (to_stoch (sources_view c.args.sources.now) (g.H.Shelf.fetches c.args.shelf.now) (g.H.Shelf.fetches c.fetched_if.new.shelf) (g.H.Shelf.fetches c.fetched_if-2.new.shelf)
    (to_time (sources_view c.args.sources.now) (g.H.Shelf.fetches c.args.shelf.now) (g.H.Shelf.fetches c.fetched.new.shelf) (g.H.Shelf.fetches c.fetched_if.new.shelf)
    c.in-Ok.ensures.names c.in-Ok-fetched_if.ensures.names) c.in-Ok-fetched_if-2.ensures.names)
    (sources_view c.args.sources.now).edits refl c.in-Err-fetched_if-3.fault c.in-Err-fetched_if-3.ensures.cause c.in-Err-fetched_if-3.ensures.stops

pub returns-in-Err-fetched_if-4-clause-stops : goal.returns-in-Err-fetched_if-4-clause-stops
returns-in-Err-fetched_if-4-clause-stops g c =
    stops_if (sources_view c.args.sources.now) (g.H.Shelf.content c.fetched_if-3.new.shelf) kind.Report (g.H.Shelf.fetches c.args.shelf.now) (g.H.Shelf.fetches c.fetched_if-3.new.shelf) (g.H.Shelf.fetches c.fetched_if-4.new.shelf)
    (to_edits (sources_view c.args.sources.now) (g.H.Shelf.fetches c.args.shelf.now) (g.H.Shelf.fetches c.fetched_if-2.new.shelf) (g.H.Shelf.fetches c.fetched_if-3.new.shelf)
    (to_stoch (sources_view c.args.sources.now) (g.H.Shelf.fetches c.args.shelf.now) (g.H.Shelf.fetches c.fetched_if.new.shelf) (g.H.Shelf.fetches c.fetched_if-2.new.shelf)
    (to_time (sources_view c.args.sources.now) (g.H.Shelf.fetches c.args.shelf.now) (g.H.Shelf.fetches c.fetched.new.shelf) (g.H.Shelf.fetches c.fetched_if.new.shelf)
    c.in-Ok.ensures.names c.in-Ok-fetched_if.ensures.names) c.in-Ok-fetched_if-2.ensures.names) c.in-Ok-fetched_if-3.ensures.names)
    (sources_view c.args.sources.now).report refl c.in-Err-fetched_if-4.fault c.in-Err-fetched_if-4.ensures.cause c.in-Err-fetched_if-4.ensures.stops

pub returns-in-Err-fetched_if-5-clause-stops : goal.returns-in-Err-fetched_if-5-clause-stops
returns-in-Err-fetched_if-5-clause-stops g c =
    stops_if (sources_view c.args.sources.now) (g.H.Shelf.content c.fetched_if-4.new.shelf) kind.Basis (g.H.Shelf.fetches c.args.shelf.now) (g.H.Shelf.fetches c.fetched_if-4.new.shelf) (g.H.Shelf.fetches c.fetched_if-5.new.shelf)
    (to_report (sources_view c.args.sources.now) (g.H.Shelf.fetches c.args.shelf.now) (g.H.Shelf.fetches c.fetched_if-3.new.shelf) (g.H.Shelf.fetches c.fetched_if-4.new.shelf)
    (to_edits (sources_view c.args.sources.now) (g.H.Shelf.fetches c.args.shelf.now) (g.H.Shelf.fetches c.fetched_if-2.new.shelf) (g.H.Shelf.fetches c.fetched_if-3.new.shelf)
    (to_stoch (sources_view c.args.sources.now) (g.H.Shelf.fetches c.args.shelf.now) (g.H.Shelf.fetches c.fetched_if.new.shelf) (g.H.Shelf.fetches c.fetched_if-2.new.shelf)
    (to_time (sources_view c.args.sources.now) (g.H.Shelf.fetches c.args.shelf.now) (g.H.Shelf.fetches c.fetched.new.shelf) (g.H.Shelf.fetches c.fetched_if.new.shelf)
    c.in-Ok.ensures.names c.in-Ok-fetched_if.ensures.names) c.in-Ok-fetched_if-2.ensures.names) c.in-Ok-fetched_if-3.ensures.names) c.in-Ok-fetched_if-4.ensures.names)
    (sources_view c.args.sources.now).basis refl c.in-Err-fetched_if-5.fault c.in-Err-fetched_if-5.ensures.cause c.in-Err-fetched_if-5.ensures.stops

pub returns-in-Err-fetched_if-6-clause-stops : goal.returns-in-Err-fetched_if-6-clause-stops
returns-in-Err-fetched_if-6-clause-stops g c =
    stops_if (sources_view c.args.sources.now) (g.H.Shelf.content c.fetched_if-5.new.shelf) kind.Measures (g.H.Shelf.fetches c.args.shelf.now) (g.H.Shelf.fetches c.fetched_if-5.new.shelf) (g.H.Shelf.fetches c.fetched_if-6.new.shelf)
    (to_basis (sources_view c.args.sources.now) (g.H.Shelf.fetches c.args.shelf.now) (g.H.Shelf.fetches c.fetched_if-4.new.shelf) (g.H.Shelf.fetches c.fetched_if-5.new.shelf)
    (to_report (sources_view c.args.sources.now) (g.H.Shelf.fetches c.args.shelf.now) (g.H.Shelf.fetches c.fetched_if-3.new.shelf) (g.H.Shelf.fetches c.fetched_if-4.new.shelf)
    (to_edits (sources_view c.args.sources.now) (g.H.Shelf.fetches c.args.shelf.now) (g.H.Shelf.fetches c.fetched_if-2.new.shelf) (g.H.Shelf.fetches c.fetched_if-3.new.shelf)
    (to_stoch (sources_view c.args.sources.now) (g.H.Shelf.fetches c.args.shelf.now) (g.H.Shelf.fetches c.fetched_if.new.shelf) (g.H.Shelf.fetches c.fetched_if-2.new.shelf)
    (to_time (sources_view c.args.sources.now) (g.H.Shelf.fetches c.args.shelf.now) (g.H.Shelf.fetches c.fetched.new.shelf) (g.H.Shelf.fetches c.fetched_if.new.shelf)
    c.in-Ok.ensures.names c.in-Ok-fetched_if.ensures.names) c.in-Ok-fetched_if-2.ensures.names) c.in-Ok-fetched_if-3.ensures.names) c.in-Ok-fetched_if-4.ensures.names) c.in-Ok-fetched_if-5.ensures.names)
    (sources_view c.args.sources.now).measures refl c.in-Err-fetched_if-6.fault c.in-Err-fetched_if-6.ensures.cause c.in-Err-fetched_if-6.ensures.stops
