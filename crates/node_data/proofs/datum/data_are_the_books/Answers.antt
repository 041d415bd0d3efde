use Rattle.node_data.proofs.BookData.{data_are_the_books}
use Rattle.node_data.proofs.datum.data_are_the_books.Goals as goal

pub returns : goal.returns
returns c = data_are_the_books
