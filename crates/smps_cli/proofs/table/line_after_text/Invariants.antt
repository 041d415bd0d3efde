use Rattle.std.proofs.Common.{◌≡◌, ◌+◌, ◌≤◌, take, nat_eq}
use Rattle.std.specs.List.{count_by}
use Rattle.smps_cli.proofs.table.line_after_text.Given as goal

abbrev pub invariant-loop-byte : goal.invariant-loop-byte
invariant-loop-byte l = (l.line ≡ count_by (λ byte. nat_eq byte 10) (take l.byte-index l.text) + 1) × (l.line ≤ l.byte-index + 1)
