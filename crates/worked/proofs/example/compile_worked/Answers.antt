use Rattle.std.proofs.Common.{◌≡◌, cond, [], get_or, is_ok, ap, ◌∙◌}
use Rattle.layout.specs.Words.{overwritten}
use Rattle.plan.specs.Functions.{functions_of}
use Rattle.plan.specs.Layouts.{code, infos, table}
use Rattle.worked.specs.Examples.{worked, worked_code, worked_info, worked_entry}
use Rattle.worked.proofs.Examples.{worked_examples, worked-accepted}
use Rattle.worked.proofs.example.compile_worked.Goals as goal

pub returns : goal.returns
returns c =
    let code_is : code (functions_of worked) ≡ worked_code = ap (λ l. get_or l 0 []) worked_examples in
    let info-is : infos (functions_of worked) ≡ worked_info = ap (λ l. get_or l 1 []) worked_examples in
    let entry-is : table (functions_of worked) ≡ worked_entry = ap (λ l. get_or l 2 []) worked_examples in
    let ok = is_ok c.compile.result in
    record {
      answer = c.compile.ensures.answer;
      code = c.compile.ensures.code ∙ ap (λ l. cond ok (overwritten c.args.code.now 0 l) c.args.code.now) code_is;
      info = c.compile.ensures.infos ∙ ap (λ l. cond ok (overwritten c.args.infos.now 0 l) c.args.infos.now) info-is;
      entry = c.compile.ensures.table ∙ ap (λ l. cond ok (overwritten c.args.table.now 0 l) c.args.table.now) entry-is;
      accepted = worked-accepted;
      examples = worked_examples;
    }
