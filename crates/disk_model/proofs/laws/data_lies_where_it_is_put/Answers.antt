use Rattle.disk_model.proofs.media.PutLemmas.{lie_where_put}
use Rattle.disk_model.proofs.laws.data_lies_where_it_is_put.Goals as goal

pub returns : goal.returns
returns c = lie_where_put
