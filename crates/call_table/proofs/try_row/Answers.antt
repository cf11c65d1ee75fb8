use Rattle.call_table.proofs.Calling.{row_read, row_unread}
use Rattle.call_table.proofs.try_row.Goals as goal

pub returns-then-read_form : goal.returns-then-read_form
returns-then-read_form c = row_read _ _ c.part_of-form.ensures c.read_form.ensures.good c.read_form.ensures.words c.if-read_form.true

pub returns : goal.returns
returns c = row_unread _ _ c.part_of-form.ensures c.read_form.ensures.good c.if-read_form.false
