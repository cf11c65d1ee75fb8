use Rattle.text.specs.Printed.{page}
use Rattle.circuit_questions.proofs.Answering.{answers_put}
use Rattle.circuit_questions.proofs.put_answers.Goals as goal

pub returns : goal.returns
returns c =
    let a = c.args in
    answers_put (page a.printer.now) _ a.n a.a a.took c.is_some.ensures c.from-given.ensures c.unwrap_or-end.ensures c.from-promotes.ensures c.from-claims.ensures
    c.from-taken.ensures c.put_form.ensures c.put_byte.ensures
