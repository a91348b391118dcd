use Rattle.plan_limits.specs.Unrolled.{unrolled_is_within}
use Rattle.fd_edge.specs.Readings.{reading}
use Rattle.fd_load.specs.LoadLaws.{loaded_fits}
use Rattle.top_tests.proofs.nodes.session_of.Goals as goal

pub returns-in-Ok-clause-admitted : goal.returns-in-Ok-clause-admitted
returns-in-Ok-clause-admitted c = record {
  some = c.requires.some;
  few = c.requires.few;
  checked = c.requires.sound;
  within = unrolled_is_within c.args.source.checked c.requires.sound c.requires.trace.1;
  trace = c.requires.trace.0;
  fits = loaded_fits (reading _ (λ name. 0) (λ name. 0)) c.args.source.checked c.in-Ok.store c.in-Ok.ensures.loaded;
}
