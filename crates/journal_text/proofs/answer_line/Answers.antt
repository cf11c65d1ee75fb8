use Rattle.text.specs.Printed.{page}
use Rattle.journal_text.proofs.Lines.{line_stands}
use Rattle.journal_text.proofs.answer_line.Goals as goal

pub returns-clause-whole : goal.returns-clause-whole
returns-clause-whole c =
    let a = c.args in
    line_stands (page a.printer.now) _ a.reply.now a.line.now a.ended c.take_line-t.ensures.turn c.put_said.ensures.bytes c.put_said.ensures.short
