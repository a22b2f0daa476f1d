-- What the commands asm and elf make of the file that they read.
use Rattle.std.specs.Prelude.{◌≡◌, ℕ, ◌⊎◌, List, [], ◌∷◌, map, Option, Ok}
use Rattle.img_text.specs.Image.{ImageRecord}
use Rattle.img_text.specs.Reading.{image_of}
use Rattle.sym_map.specs.Reading.{symbols_of}
use Rattle.elf_img.specs.MapText.{map_text, named}
use Rattle.io_edge.specs.Edge.{FileMap}
use Rattle.kdbsim_files.specs.Files.{Kind, source_file, elf_file, Executable, HasFile, FailsAtFile}
use Rattle.kdbsim_files.specs.declared.status.Status.{Status}
use Rattle.kdbsim_builds.specs.Stored.{Product, ShelfCall, IsStored}

-- the source was read, and this text reads as the image that it means
pub record IsSourceImage (files : Option FileMap) (source text : List ℕ) : Type 0 where
  pub value : ImageRecord
  pub read : HasFile files source_file source value
  pub reads : image_of text ≡ Ok value

-- the executable was read, and these texts read as its image and as the symbols of its map
pub record IsElfPair (files : Option FileMap) (executable image map_bytes : List ℕ) : Type 0 where
  pub value : Executable
  pub read : HasFile files elf_file executable value
  pub reads_image : image_of image ≡ Ok value.image
  pub reads_map : symbols_of map_bytes ≡ Ok (map named value.symbols)
  pub map_is : map_bytes ≡ map_text value.symbols

-- what asm is to write: under the image's name a text that reads as the image that the source means
pub record IsAssembled (files : Option FileMap) (source image : List ℕ) (products : List Product) : Type 0 where
  pub text : List ℕ
  pub of : IsSourceImage files source text
  pub products_are : products ≡ (image, text) ∷ []

-- What elf is to write: under the image's name a text that reads as the executable's image, and then under the map's name
-- one that reads as its symbols.
pub record IsConverted (files : Option FileMap) (executable image map_name : List ℕ) (products : List Product) : Type 0 where
  pub image_text : List ℕ
  pub map_bytes : List ℕ
  pub of : IsElfPair files executable image_text map_bytes
  pub products_are : products ≡ (image, image_text) ∷ (map_name, map_bytes) ∷ []

-- The cause of an answer: files were to be written; or the file that is read fails, and nothing was written.
abbrev pub ExplainsBuild : (List Product → Type 0) → Kind → List ℕ → ShelfCall → Status → Type 0
ExplainsBuild IsMade kind name call status =
    ((products : List Product) × IsMade products × IsStored call products status)
    ⊎ (FailsAtFile call.files_before kind name call.count_before call.count_after status × (call.files_after ≡ call.files_before))
