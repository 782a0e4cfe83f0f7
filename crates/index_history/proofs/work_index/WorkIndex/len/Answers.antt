use Rattle.index_history.proofs.work_index.WorkIndex.len.Goals as goal

pub returns : goal.returns
returns g c = λ h t. c.len.ensures h t.numbers
