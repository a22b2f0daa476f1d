-- What a shelf that tells its files tells once they are made.
use Rattle.std.specs.Prelude.{◌≡◌, ◌≢◌, ℕ, List, map, Option, Some, Ok}
use Rattle.std.specs.FinMap.{get}
use Rattle.img_text.specs.Image.{ImageRecord}
use Rattle.img_text.specs.Reading.{image_of}
use Rattle.sym_map.specs.Reading.{symbols_of}
use Rattle.elf_img.specs.MapText.{named}
use Rattle.io_edge.specs.Edge.{FileMap, bytes_of}
use Rattle.kdbsim_files.specs.Files.{source_file, elf_file, Executable, HasFile}
use Rattle.kdbsim_builds.specs.Stored.{Product, with_products}
use Rattle.kdbsim_builds.specs.Builds.{IsAssembled, IsConverted}

-- the shelf tells files of which the image's reads as the image that the source means, and every other name has what it had
pub record IsAssembledTold (files : FileMap) (source image : List ℕ) (after : Option FileMap) : Type 0 where
  pub told : FileMap
  pub after_is : after ≡ Some told
  pub value : ImageRecord
  pub read : HasFile (Some files) source_file source value
  pub reads : image_of (bytes_of told image) ≡ Ok value
  pub others : (name : List ℕ) → name ≢ image → get told name ≡ get files name

-- the shelf tells files of which the image's and the map's read as the executable's image and symbols, and every other name
-- has what it had
pub record IsConvertedTold (files : FileMap) (executable image map_name : List ℕ) (after : Option FileMap) : Type 0 where
  pub told : FileMap
  pub after_is : after ≡ Some told
  pub value : Executable
  pub read : HasFile (Some files) elf_file executable value
  pub reads_image : image_of (bytes_of told image) ≡ Ok value.image
  pub reads_map : symbols_of (bytes_of told map_name) ≡ Ok (map named value.symbols)
  pub others : (name : List ℕ) → name ≢ image → name ≢ map_name → get told name ≡ get files name

-- Where the shelf tells its files, it tells what asm and elf are to write once that is written.
pub record MadeFilesAreTold : Type 0 where
  pub assembled : (files : FileMap) (source image : List ℕ) (products : List Product) → IsAssembled (Some files) source image products
      → IsAssembledTold files source image (with_products (Some files) products)
  pub converted : (files : FileMap) (executable image map_name : List ℕ) (products : List Product) → map_name ≢ image
      → IsConverted (Some files) executable image map_name products → IsConvertedTold files executable image map_name (with_products (Some files) products)
