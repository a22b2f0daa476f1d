-- The writes of a command that makes files.
use Rattle.std.specs.Prelude.{◌≡◌, ℕ, ◌⊎◌, List, [], ◌∷◌, ◌++◌, Option}
use Rattle.std.specs.Option.{option_map}
use Rattle.std.specs.FinMap.{insert}
use Rattle.io_edge.specs.Edge.{FileMap, HasRisen, KeepsOthers}
use Rattle.kdbsim_files.specs.declared.status.Status.{Status}
use Rattle.kdbsim_files.specs.declared.status.Status.TheVariants.{Made, WriteFault, OutOfMemory}

-- a file that is to be written: its name and its bytes
abbrev pub Product : Type 0
Product = List ℕ × List ℕ

-- what the shelf tells before and after a call: its files and its count of faults
pub record ShelfCall : Type 0 where
  pub files_before : Option FileMap
  pub files_after : Option FileMap
  pub count_before : ℕ
  pub count_after : ℕ

-- the files with these written, in order
abbrev pub with_products : Option FileMap → List Product → Option FileMap
with_products files [] = files
with_products files (p ∷ ps) = with_products (option_map (λ fs. insert fs p.0 p.1) files) ps

-- the shelf failed at one of the files: its count rose, those before it are written, and every name but that one's keeps
-- its bytes
pub record HasLost (call : ShelfCall) (products : List Product) : Type 0 where
  pub written : List Product
  pub lost : Product
  pub later : List Product
  pub split : products ≡ written ++ lost ∷ later
  pub others : KeepsOthers lost.0 (with_products call.files_before written) call.files_after
  pub count : HasRisen call.count_before call.count_after

-- The answer to files that are to be written: all are, and nothing else; the shelf failed at one of them; or memory ran out
-- before the first, and nothing was written.
abbrev pub IsStored : ShelfCall → List Product → Status → Type 0
IsStored call products status =
    ((status ≡ Made) × (call.files_after ≡ with_products call.files_before products))
    ⊎ ((status ≡ WriteFault) × HasLost call products)
    ⊎ ((status ≡ OutOfMemory) × (call.files_after ≡ call.files_before))
