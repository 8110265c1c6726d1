use Rattle.theorems.proofs.Found.{one_line_each, lines_in_order}
use Rattle.theorems.proofs.no_label_stands_twice.Goals as goal

pub returns : goal.returns
returns c = λ rule words lent lent_index h. (one_line_each rule words lent lent_index h, lines_in_order rule words lent lent_index h)
