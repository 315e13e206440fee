use Rattle.std.proofs.Common.{ℕ, ◌∙◌, rules}
use Rattle.std.proofs.lemmas.Iterator.{YieldsList-from_slice, YieldsList-from_zip}
use Rattle.sharing.proofs.Folds.{fold_by}
use Rattle.sharing.proofs.Promises.{recombines, multiplies}
use Rattle.sharing.proofs.Weighing.{fold-weighed}
use Rattle.sharing.proofs.shares.recombine.Goals as goal

pub returns : goal.returns
returns g c =
    let o = g.K.Kind.ops in
    let laws = g.met.K.Kind.lawful in
    let weights = c.args.weights.now in
    let codes = c.args.codes.now in
    let pairs = YieldsList-from_zip {s = c.zip.result} (YieldsList-from_slice weights cc) (YieldsList-from_slice codes cc) in
    record {
      answer =
          fold_by (λ total (p : ℕ × ℕ). o.sum total (o.product p.0 p.1)) _ (λ a x b f' k. search rules) pairs 0 c.fold.result c.fold.ensures.ran
          ∙ fold-weighed o laws weights codes;
      recombines = recombines o laws;
      multiplies = multiplies o laws;
    }
