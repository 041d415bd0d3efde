use Rattle.interval_form.proofs.PlainShows.{best_shows, farkas_shows, endless_shows}
use Rattle.interval_form.proofs.laws.plain_ends_mean.Goals as goal

pub returns : goal.returns
returns c = record {
  best = λ p limits x y h w o. best_shows p limits h w x y o;
  farkas = λ p limits y h w o. farkas_shows p limits h w y o;
  endless = λ p limits x d h w o. endless_shows p limits h w x d o;
}
