use Rattle.book.proofs.Faithfulness as faithfulness
use Rattle.book.proofs.laws.faithful.Goals as goal

pub returns : goal.returns
returns c = faithfulness.faithful
