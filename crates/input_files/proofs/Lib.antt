mod JsonBytes
