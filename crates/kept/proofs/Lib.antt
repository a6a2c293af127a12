-- Five words a section (Words), the entries of a vector that are left to look through (Entries), that a vector was read (VectorRead), what every
-- vector has (Vectors), what it is for a cut to lie in its row (Sane), a list cut by its entries (Lists); what is kept (SectionsRemote, SectionsPlaced, SectionsKept), how rows are
-- planned (SectionsRun, SectionsPlan, SectionsCut), and that the plan is what is kept (SectionsTorn, SectionsGoes).
pub mod Words
pub mod Entries
pub mod VectorRead
pub mod Vectors
pub mod Sane
pub mod Lists
pub mod SectionsRemote
pub mod SectionsPlaced
pub mod SectionsKept
pub mod SectionsRun
pub mod SectionsPlan
pub mod SectionsCut
pub mod SectionsTorn
pub mod SectionsGoes
