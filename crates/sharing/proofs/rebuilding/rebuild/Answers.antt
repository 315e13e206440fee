use Rattle.sharing.proofs.Promises.{rebuilds, answers_the_one, refuses_when_none}
use Rattle.sharing.proofs.rebuilding.rebuild.Goals as goal

pub returns : goal.returns
returns g c =
    let o = g.K.Kind.ops in
    let laws = g.met.K.Kind.lawful in
    record {
      answer = c.attempt.ensures;
      rebuilds = rebuilds o laws;
      answers_the_one = answers_the_one o laws;
      refuses_when_none = refuses_when_none o laws;
    }
