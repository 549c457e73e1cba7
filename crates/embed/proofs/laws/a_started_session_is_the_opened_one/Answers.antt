use Rattle.embed.proofs.Openings.{started}
use Rattle.embed.proofs.laws.a_started_session_is_the_opened_one.Goals as goal

pub returns : goal.returns
returns c = started
