-- That draws in line tile their bytes, and so those of a form 1 update; and that the runs of a column follow one another.
pub mod Goes
pub mod Tiled
pub mod InARow
