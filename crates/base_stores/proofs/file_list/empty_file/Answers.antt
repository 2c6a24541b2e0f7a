use Rattle.base_stores.proofs.FileListLaws.{put_back}
use Rattle.base_stores.proofs.file_list.empty_file.Goals as goal

pub returns-in-Some-clause-ok : goal.returns-in-Some-clause-ok
returns-in-Some-clause-ok c =
    let p = rw c.deref.ensures.value at c.in-Some.ensures.found in
    put_back _ _ _ _ _ _ c.index_mut.result.now c.clear.new.self p c.index_mut.ensures.value c.clear.ensures.items
