use Rattle.std.proofs.Common.{refl}
use Rattle.ja_io.proofs.mem_folder.MemFolderFolder.TheImpl.Goals as goal

-- what the trait asks of a folder that tells what it holds is what is asked here
pub read-asks : goal.read-asks
read-asks c = c.requires _ refl
