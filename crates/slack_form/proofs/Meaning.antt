-- What the standard form says of the rows themselves.
use Rattle.std.proofs.Common.{refl}
use Rattle.slack_form.specs.Laws.{SlackFormLaws}
use Rattle.slack_form.proofs.Program.{standard_is_program}
use Rattle.slack_form.proofs.Points.{point_of, ray_of}
use Rattle.slack_form.proofs.Multipliers.{worth_is, dual_of, farkas_of}
use Rattle.slack_form.proofs.Lost.{point_from}

pub slack_form_means : SlackFormLaws
slack_form_means = record {
  program = standard_is_program;
  cost = λ limits. refl;
  point = λ limits x is. point_of limits x;
  no_point_is_lost = point_from;
  ray = λ limits d is. ray_of limits d;
  dual = dual_of;
  farkas = farkas_of;
  worth = λ limits ds. worth_is limits.rows.items ds;
}
